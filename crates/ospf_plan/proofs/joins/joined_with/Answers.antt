use Rattle.std.proofs.Common.{◌≡◌, ◌==◌, ◌||◌, ◌≤◌, ◌∙◌, ℕ, Bool, false, List, ap, refl, sym, subst, inl, inr, arith, length, vec_len}
use Rattle.ospf_plan.specs.declared.joins.Join.{Join}
use Rattle.ospf_plan.specs.Joins.{set_has}
use Rattle.ospf_plan.proofs.Reach.{IsSoFar, all_reached, closes, first_so_far, less_or_not, next_so_far}
use Rattle.ospf_plan.proofs.joins.joined_with.Goals as goal

pub loop-before-init : goal.loop-before-init
loop-before-init c =
    let s : ℕ → Bool = set_has c.add.new.reached in
    let only : (q : ℕ) → s q ≡ (c.args.one == q) = λ q.
    (let none : set_has c.new-reached.result q ≡ false = rw c.new-reached.ensures.empty refl in
    c.in_ok-add.ensures q ∙ ap (λ b. b || (c.args.one == q)) none) in
    let e = c.len-before.ensures in
    (subst (IsSoFar c.args.joins.now c.args.one s) (sym c.in_ok-rest.ensures.items) (first_so_far c.args.joins.now c.args.one s only), inl (omega (arith, e)))

pub loop-before-preserved : goal.loop-before-preserved
loop-before-preserved c =
    let s : ℕ → Bool = set_has c.loop-before.reached in
    let t : ℕ → Bool = set_has c.pass.new.reached in
    let js : List Join = c.deref.result.now in
    let ks : List Join = c.in_ok-rest-2.rest.items in
    let far : IsSoFar c.args.joins.now c.args.one s js = subst (IsSoFar c.args.joins.now c.args.one s) (sym c.deref.ensures.value) c.loop-before.invariant.0 in
    let e = c.len-before-in-loop-before.ensures in
    let l : length js ≡ vec_len c.loop-before.rest = c.deref.ensures.len in (
      next_so_far c.args.joins.now c.args.one s t js ks c.in_ok-rest-2.ensures.after c.in_ok-rest-2.ensures.rest far,
      elim (less_or_not (vec_len c.in_ok-rest-2.rest) c.len-before-in-loop-before.result) [
        | inl lt ↦ inl lt
        | inr le ↦ inr (closes s t js ks c.in_ok-rest-2.ensures.after c.in_ok-rest-2.ensures.rest (let all : length js ≤ length ks = omega (arith, e, l, le) in all))
      ],
    )

pub returns : goal.returns
returns c = λ q.
    (let far = c.loop-before.invariant.0 in (
      far.joined q,
      elim c.loop-before.invariant.1 [
        | inl lt ↦ absurd (let e = c.len.ensures in let no = c.loop-before-test.false in omega (arith, lt, e, no))
        | inr closed ↦ all_reached c.args.joins.now c.args.one (set_has c.loop-before.reached) c.loop-before.rest.items far closed q
      ],
    ))
