use Rattle.std.proofs.Common.{◌≡◌, ◌≢◌, ◌⊎◌, ◌≤◌, ◌+◌, ◌++◌, ◌∷◌, [], inl, inr, false, true, List, ap, rules, length, subst, sym, take, ◌∙◌}
use Rattle.std.proofs.lemmas.List.{take_all, take_more}
use Rattle.ospf_base.specs.declared.prefix.Prefix.{Prefix}
use Rattle.ospf_graph.specs.EdgeLists.Listed.{advertisements_of}
use Rattle.ospf_graph.specs.declared.route.Route.{Route}
use Rattle.ospf_spf.proofs.TurnLemmas.{IsTurned, turned_changed, turned_next, turned_start, turned_table}
use Rattle.ospf_spf.specs.Changes.{changed}
use Rattle.ospf_router.proofs.turned.turn_table.Goals as goal
use Rattle.ospf_router.proofs.turned.turn_table.Goals.{After-loop-prefix, then-branch, else-branch}

pub loop-prefix-init : goal.loop-prefix-init
loop-prefix-init c =
    turned_start (advertisements_of c.args.tree.now.listing) c.args.tree.now.root c.args.table.now
    (record { in_order = c.routes-in_order.ensures.in_order; have_hops = c.routes-in_order.ensures.have_hops })

pub loop-prefix-preserved : goal.loop-prefix-preserved
loop-prefix-preserved c =
    let A = advertisements_of c.args.tree.now.listing in
    let root = c.args.tree.now.root in
    let first = c.args.table.now in
    let now = c.loop-prefix.table in
    let touched = c.args.touched.now in
    let i = c.loop-prefix.prefix-index in
    let change = c.in_ok-change.change in
    let made = c.in_ok-change-2.ensures in
    let next = c.if-branch.is_other in
    let still : next ≡ false → (c.loop-prefix.is_other ≡ false) × (changed now change ≡ now) = λ is. elim c.if-branch.branch [
      | then-branch w ↦ absurd (let e = sym w.is_other-is ∙ is in cc)
      | else-branch w ↦ (sym w.is_other-is ∙ is, sym made.done ∙ made.same w.if-branch.false)
    ] in
    let differs : next ≡ true → (c.loop-prefix.is_other ≡ true) ⊎ (changed now change ≢ now) = λ is. elim c.if-branch.branch [
      | then-branch w ↦ inr (λ same. made.other w.if-branch.true (made.done ∙ same))
      | else-branch w ↦ inl (sym w.is_other-is ∙ is)
    ] in
    let turned = turned_next A root first now (take i touched) c.loop-prefix.is_other c.loop-prefix.invariant change c.in_ok-change.ensures.right c.in_ok-change.ensures.hops next still differs in
    let prefix_is = c.in_ok-change.ensures.prefix ∙ c.prefix-item.is in
    let more = sym (take_more touched i c.prefix-item.result c.loop-prefix-test.true ∙ ap (λ (p : Prefix). take i touched ++ p ∷ []) (sym prefix_is)) in
    subst (λ (rs : List Route). IsTurned A root first rs (take (i + 1) touched) next) (sym made.done)
    (subst (λ (ps : List Prefix). IsTurned A root first (changed now change) ps next) more turned)

all_turned : (c : After-loop-prefix) → IsTurned (advertisements_of c.args.tree.now.listing) c.args.tree.now.root c.args.table.now c.loop-prefix.table c.args.touched.now c.loop-prefix.is_other
all_turned c =
    let end : length c.args.touched.now ≤ c.loop-prefix.prefix-index = c.loop-prefix-test.false in
    rw take_all at c.loop-prefix.invariant

pub returns-clause-table : goal.returns-clause-table
returns-clause-table c =
    let q = c.requires in
    turned_table (advertisements_of c.args.tree.now.listing) c.args.tree.now.root c.args.table.now q.0 c.loop-prefix.table c.args.touched.now c.loop-prefix.is_other
    (all_turned c) q.1 q.2

pub returns-clause-changed : goal.returns-clause-changed
returns-clause-changed c =
    let q = c.requires in
    let told = turned_changed (advertisements_of c.args.tree.now.listing) c.args.tree.now.root c.args.table.now q.0 c.loop-prefix.table c.args.touched.now c.loop-prefix.is_other
    (all_turned c) q.1 q.2 in
    search (rules, told)
