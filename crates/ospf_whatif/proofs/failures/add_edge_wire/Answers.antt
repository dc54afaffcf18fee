use Rattle.std.proofs.Common.{arith}
use Rattle.ospf_graph.specs.EdgeLists.Listed.{advertisements_of}
use Rattle.ospf_whatif.specs.Single.{IsWireAt, WireGiven}
use Rattle.ospf_graph.proofs.EdgeLists.AddsLemmas.{adds_as}
use Rattle.ospf_whatif.proofs.SingleLemmas.{wire_given}
use Rattle.ospf_whatif.proofs.failures.add_edge_wire.Goals as goal

pub returns-in_ok-add_wire-in-Router-Router : goal.returns-in_ok-add_wire-in-Router-Router
returns-in_ok-add_wire-in-Router-Router c =
    let A = advertisements_of c.args.listing.now in
    let e = c.args.edge.now in
    let a = c.in-Router-Router.a in
    let b = c.in-Router-Router.b in
    adds_as (IsWireAt A a b e.link_data) (WireGiven A e) _ _ (wire_given A e a b c.in-Router-Router.is-0 c.in-Router-Router.is-1 (omega (arith, c.if-a-b.true)))
    c.in_ok-add_wire-in-Router-Router.ensures
