use Rattle.std.proofs.Common.{◌≡◌, ◌<◌, ◌++◌, ◌∷◌, [], ◌∙◌, ◌+◌, ℕ, ap, sym, arith, length, get_or, drop, drop-cons, add-one, if◌then◌else◌}
use Rattle.ospf_plan.specs.declared.joins.Join.{Join}
use Rattle.ospf_plan.specs.Joins.{reached_after, set_has, left, marked_by, touches}
use Rattle.ospf_plan.proofs.Reach.{after_same, left_same, left_split}
use Rattle.ospf_plan.proofs.joins.pass.Goals as goal

pub loop-join-preserved : goal.loop-join-preserved
loop-join-preserved c =
    let js = c.args.joins.now in
    let i = c.loop-join.join-index in
    let x : Join = get_or js i (record { one = 0; other = 0 }) in
    let s : ℕ → _ = set_has c.loop-join.reached in
    let within : i < length js = omega arith in
    let split : drop i js ≡ x ∷ drop (i + 1) js = rw add-one (drop-cons js i (record { one = 0; other = 0 }) within) in (
      (λ q. after_same (set_has c.visit.new.reached) (marked_by s x) (drop (i + 1) js) q c.in_ok-touched.ensures.after ∙ ap (λ ys. reached_after s ys q) (sym split) ∙ c.loop-join.invariant.0 q),
      ap (λ xs. xs ++ left (set_has c.visit.new.reached) (drop (i + 1) js)) c.in_ok-push_unless.ensures
          ∙ ap (λ b. (c.loop-join.rest.items ++ (if b then [] else x ∷ [])) ++ left (set_has c.visit.new.reached) (drop (i + 1) js)) c.in_ok-touched.ensures.touched
          ∙ ap (λ ks. (c.loop-join.rest.items ++ (if touches s x then [] else x ∷ [])) ++ ks) (left_same (set_has c.visit.new.reached) (marked_by s x) (drop (i + 1) js) c.in_ok-touched.ensures.after)
          ∙ sym (left_split s x (drop (i + 1) js) c.loop-join.rest.items)
          ∙ ap (λ ys. c.loop-join.rest.items ++ left s ys) (sym split)
          ∙ c.loop-join.invariant.1,
    )
