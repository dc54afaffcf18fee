use Rattle.std.proofs.Common.{List, rules, of_calls, leb, leb-true, subst, sym, get_or, arith}
use Rattle.std.proofs.lemmas.List.Sorted.{IsNonDecreasingBy-insert, IsPartitionPoint-from_clause, IsPartitionedBy-leb}
use Rattle.ospf_graph.specs.declared.edges.end.End.{End}
use Rattle.ospf_graph.proofs.Runs.{not_upto}
use Rattle.ospf_spf.proofs.IncrementalSpf.KeptGrowth.{inserted}
use Rattle.ospf_spf.specs.Spared.{AreEndsInOrder}
use Rattle.ospf_spf.specs.Reach.{prefix_code}
use Rattle.std.specs.List.{Contains}
use Rattle.ospf_router.proofs.EndLemmas.{adds_there}
use Rattle.ospf_router.proofs.SameEnds.{end_in}
use Rattle.ospf_router.proofs.ends.insert_end.Goals as goal

pub returns-clause-in_order : goal.returns-clause-in_order
returns-clause-in_order c =
    let key = λ (e : End). prefix_code e.prefix in
    let n = c.prefix_order-order.result in
    let is = c.prefix_order-order.ensures in
    let ends = c.args.ends.now.items in
    let i = c.partition_point-place.result in
    let order = subst (λ l. AreEndsInOrder l) (sym c.deref-2.ensures.value) c.requires in
    let q = rw c.deref-2.ensures.value at (IsPartitionPoint-from_clause (λ e. leb (key e) n) _ _ c.partition_point-place.ensures.partitioned (IsPartitionedBy-leb key _ n order) (λ a r q k. search (rules, of_calls))) in
    let bound = rw c.deref-2.ensures.value at c.partition_point-place.ensures.bound in
    rw c.in_ok-insert.ensures.items
    (IsNonDecreasingBy-insert key ends i c.args.end c.requires bound
    (λ k d lt. let low = leb-true (key (get_or ends k d)) n (q.0 k d (omega arith) lt) in omega arith)
    (λ k d le lt. let high = not_upto (key (get_or ends k d)) n (q.1 k d le lt) in omega arith))

pub returns-clause-members : goal.returns-clause-members
returns-clause-members c = λ e. rw c.in_ok-insert.ensures.items (inserted c.args.ends.now.items c.partition_point-place.result c.args.end e)

pub returns-then-contains-clause-members : goal.returns-then-contains-clause-members
returns-then-contains-clause-members c =
    let in_part = (end_in c.ends_to.result.now c.args.end c.contains.result c.contains.ensures.cases).0 c.if-contains.true in
    let there = c.ends_to.ensures.part c.args.end in_part in
    adds_there c.args.ends.now.items c.args.end (subst (λ (es : List End). Contains es c.args.end) c.deref.ensures.value there)
