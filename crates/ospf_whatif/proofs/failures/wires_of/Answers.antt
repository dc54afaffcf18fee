use Rattle.std.proofs.Common.{◌≤◌, length, subst, arith}
use Rattle.std.proofs.lemmas.List.{take_all}
use Rattle.ospf_graph.specs.Adds.{Adds}
use Rattle.ospf_graph.specs.EdgeLists.Listed.{advertisements_of}
use Rattle.ospf_whatif.specs.Single.{GivenBy, WireGiven}
use Rattle.ospf_whatif.proofs.SingleLemmas.{adds_at, no_edge}
use Rattle.ospf_whatif.proofs.failures.wires_of.Goals as goal

pub loop-edge-preserved : goal.loop-edge-preserved
loop-edge-preserved c =
    adds_at (WireGiven (advertisements_of c.args.listing.now)) c.args.edges.now c.loop-edge.edge-index no_edge c.new-wires.result.items
    c.loop-edge.wires.items c.add_edge_wire.new.failures.items c.loop-edge-test.true c.loop-edge.invariant c.in_ok-add_edge_wire.ensures

pub returns : goal.returns
returns c =
    let P = WireGiven (advertisements_of c.args.listing.now) in
    let end : length c.args.edges.now ≤ c.loop-edge.edge-index = omega (arith, c.loop-edge-test.false) in
    subst (λ old. Adds (GivenBy P c.args.edges.now) old c.loop-edge.wires.items) c.new-wires.ensures.items
    (subst (λ l. Adds (GivenBy P l) c.new-wires.result.items c.loop-edge.wires.items) (take_all c.loop-edge.edge-index c.args.edges.now end) c.loop-edge.invariant)
