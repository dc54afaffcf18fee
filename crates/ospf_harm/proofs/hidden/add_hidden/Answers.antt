use Rattle.std.proofs.Common.{◌≡◌, List, arith, subst, sym}
use Rattle.ospf_graph.specs.EdgeLists.Listed.{advertisements_of}
use Rattle.ospf_graph.specs.EdgeLists.Near.{AreEdgesAt}
use Rattle.ospf_graph.proofs.EdgeLists.AddsLemmas.{adds_as}
use Rattle.ospf_graph.specs.declared.graph.Edge.{Edge}
use Rattle.ospf_graph.specs.declared.graph.Vertex.TheVariants as vertex
use Rattle.ospf_harm.specs.Hidden.{HiddenGiven, OtherGiven}
use Rattle.ospf_whatif.specs.Single.{GivenBy}
use Rattle.ospf_harm.proofs.HiddenLemmas.{others_given}
use Rattle.ospf_harm.proofs.hidden.add_hidden.Goals as goal

pub returns-in_ok-add_others-in-Router-Network : goal.returns-in_ok-add_others-in-Router-Network
returns-in_ok-add_others-in-Router-Network c =
    let A = advertisements_of c.args.listing.now in
    let e = c.args.edge.now in
    let near = c.deref.result.now in
    let router = c.in-Router-Network.router in
    let network = c.in-Router-Network.network in
    let at : AreEdgesAt A (vertex.Network network) near =
    subst (λ (l : List Edge). AreEdgesAt A (vertex.Network network) l) (sym c.deref.ensures.value) c.in_ok-near-in-Router-Network.ensures.edges in
    let cost : e.cost ≡ 65535 = omega (arith, c.if-edge.true) in
    adds_as (GivenBy (OtherGiven near router network) near) (HiddenGiven A e) _ _
    (others_given A near router network at e c.in-Router-Network.is-0 c.in-Router-Network.is-1 cost) c.in_ok-add_others-in-Router-Network.ensures
