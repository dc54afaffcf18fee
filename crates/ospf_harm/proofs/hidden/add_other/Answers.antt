use Rattle.std.proofs.Common.{◌≡◌, ◌∙◌, ap, arith}
use Rattle.ospf_base.specs.declared.ids.RouterId.{RouterId}
use Rattle.ospf_graph.proofs.EdgeLists.AddsLemmas.{adds_as}
use Rattle.ospf_graph.specs.declared.graph.Vertex.TheVariants as vertex
use Rattle.ospf_harm.specs.Hidden.{OtherGiven}
use Rattle.ospf_harm.proofs.HiddenLemmas.{named, one_other}
use Rattle.ospf_harm.proofs.hidden.add_other.Goals as goal

pub returns-in_ok-add_cost-in-Router-Network : goal.returns-in_ok-add_cost-in-Router-Network
returns-in_ok-add_cost-in-Router-Network c =
    let near = c.args.near.now in
    let other = c.in-Router-Network.other in
    let id : c.in-Router-Network.id ≡ c.args.network = omega (arith, c.if-id-network.true) in
    adds_as (λ h. h ≡ named c.args.router c.args.network other) (OtherGiven near c.args.router c.args.network c.args.edge.now) _ _
    (one_other near c.args.router other c.args.network c.args.edge.now c.in-Router-Network.is-0 (c.in-Router-Network.is-1 ∙ ap (λ n. vertex.Network n) id)
    (λ same. let equal : other.0 ≡ c.args.router.0 = ap (λ (r : RouterId). r.0) same in omega (arith, equal, c.if-other-router.true))
    (c.are_two.ensures.0 c.if-are_two.true))
    c.in_ok-add_cost-in-Router-Network.ensures
