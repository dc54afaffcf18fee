use Rattle.std.proofs.Common.{rules, of_calls, arith, inl, inr, ltb, ◌∙◌}
use Rattle.std.proofs.lemmas.List.{get_or_default}
use Rattle.std.proofs.lemmas.List.Sorted.{IsPartitionPoint-from_clause, IsPartitionedBy-ltb}
use Rattle.ospf_graph.specs.Search.{vertex_code}
use Rattle.ospf_spf.proofs.IncrementalSpf.ShrinkSteps.{not_among, true_or_false}
use Rattle.ospf_spf.proofs.incremental.shrink.is_among.Goals as goal

pub returns-then-place-vertices : goal.returns-then-place-vertices
returns-then-place-vertices c =
    let n = c.vertex_order-order.result in
    let i = c.partition_point-place.result in
    let p = IsPartitionPoint-from_clause (λ w. ltb (vertex_code w) n) _ _ c.partition_point-place.ensures.partitioned (IsPartitionedBy-ltb vertex_code _ n c.requires) (λ a r q k. search (rules, of_calls)) in (
      λ is. (i, c.if-place-vertices.true, get_or_default c.args.vertices.now i c.args.vertex _ c.if-place-vertices.true ∙ c.is_same.ensures.same.0 is),
      λ m. elim (true_or_false c.is_same.result) [
        | inl is ↦ is
        | inr other ↦ absurd (not_among c.args.vertices.now c.args.vertex n i c.requires c.vertex_order-order.ensures p
            (λ lt same. (let is = c.is_same.ensures.same.1 (get_or_default c.args.vertices.now i _ c.args.vertex lt ∙ same) in cc)) m)
      ],
    )

pub returns-else-place-vertices : goal.returns-else-place-vertices
returns-else-place-vertices c =
    let n = c.vertex_order-order.result in
    let i = c.partition_point-place.result in
    let p = IsPartitionPoint-from_clause (λ w. ltb (vertex_code w) n) _ _ c.partition_point-place.ensures.partitioned (IsPartitionedBy-ltb vertex_code _ n c.requires) (λ a r q k. search (rules, of_calls)) in (
      λ is. absurd (let past = c.if-place-vertices.false in grind arith),
      λ m. absurd (not_among c.args.vertices.now c.args.vertex n i c.requires c.vertex_order-order.ensures p (λ lt same. (let past = c.if-place-vertices.false in omega arith)) m),
    )
