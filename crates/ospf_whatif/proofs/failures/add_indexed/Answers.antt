use Rattle.std.proofs.Common.{◌≡◌}
use Rattle.ospf_whatif.specs.Single.{IsUnnumberedAt}
use Rattle.ospf_whatif.specs.declared.failure.AreaFailure.TheVariants.{Link}
use Rattle.ospf_graph.proofs.EdgeLists.AddsLemmas.{adds_as}
use Rattle.ospf_whatif.proofs.SingleLemmas.{one_indexed}
use Rattle.ospf_whatif.proofs.failures.add_indexed.Goals as goal

pub returns-in_ok-add_failure : goal.returns-in_ok-add_failure
returns-in_ok-add_failure c =
    let a = c.args.a in
    let b = c.args.b in
    let p = c.prefix_of_indices-subnet.result in
    adds_as (λ f. f ≡ Link a b p) (IsUnnumberedAt c.args.link_data a b) _ _
    (one_indexed c.args.link_data a b p c.prefix_of_indices-subnet.ensures (c.is_index.ensures.0 c.if-is_index.true))
    c.in_ok-add_failure.ensures
