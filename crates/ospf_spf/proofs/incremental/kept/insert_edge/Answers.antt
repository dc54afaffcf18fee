use Rattle.std.proofs.Common.{rules, of_calls, leb, subst, sym}
use Rattle.std.proofs.lemmas.List.Sorted.{IsPartitionPoint-from_clause, IsPartitionedBy-leb}
use Rattle.ospf_graph.specs.declared.graph.Edge.{Edge}
use Rattle.ospf_graph.specs.Search.{AreEdgesInOrder, vertex_code}
use Rattle.ospf_spf.proofs.IncrementalSpf.KeptGrowth.{inserted, inserted_in_order}
use Rattle.ospf_spf.proofs.incremental.kept.insert_edge.Goals as goal

pub returns-clause-in_order : goal.returns-clause-in_order
returns-clause-in_order c =
    let key = λ (e : Edge). vertex_code e.from in
    let n = c.vertex_order-order.result in
    let order = subst (λ l. AreEdgesInOrder l) (sym c.deref-2.ensures.value) c.requires in
    let q = IsPartitionPoint-from_clause (λ e. leb (key e) n) _ _ c.partition_point-place.ensures.partitioned (IsPartitionedBy-leb key _ n order) (λ a r q k. search (rules, of_calls)) in
    rw c.in_ok-insert.ensures.items
    (inserted_in_order c.args.edges.now.items c.args.edge n c.partition_point-place.result c.vertex_order-order.ensures c.requires
    (rw c.deref-2.ensures.value at c.partition_point-place.ensures.bound) (rw c.deref-2.ensures.value at q))

pub returns-clause-members : goal.returns-clause-members
returns-clause-members c e = rw c.in_ok-insert.ensures.items (inserted c.args.edges.now.items c.partition_point-place.result c.args.edge e)
