use Rattle.std.proofs.Common.{◌≤◌, length, subst, arith}
use Rattle.std.proofs.lemmas.List.{take_all}
use Rattle.ospf_graph.specs.Adds.{Adds}
use Rattle.ospf_graph.proofs.EdgeLists.AddsLemmas.{adds_start}
use Rattle.ospf_whatif.proofs.SingleLemmas.{adds_at, no_edge}
use Rattle.ospf_whatif.specs.Single.{GivenBy, EdgeGiven}
use Rattle.ospf_whatif.proofs.failures.add_edges.Goals as goal

pub loop-edge-init : goal.loop-edge-init
loop-edge-init c = adds_start (EdgeGiven c.args.wired.now) c.args.failures.now.items

pub loop-edge-preserved : goal.loop-edge-preserved
loop-edge-preserved c =
    adds_at (EdgeGiven c.args.wired.now) c.args.edges.now c.loop-edge.edge-index no_edge c.args.failures.now.items c.loop-edge.failures.items
    c.add_edge.new.failures.items c.loop-edge-test.true c.loop-edge.invariant c.in_ok-add_edge.ensures

pub returns : goal.returns
returns c =
    let end : length c.args.edges.now ≤ c.loop-edge.edge-index = omega (arith, c.loop-edge-test.false) in
    subst (λ l. Adds (GivenBy (EdgeGiven c.args.wired.now) l) c.args.failures.now.items c.loop-edge.failures.items) (take_all c.loop-edge.edge-index c.args.edges.now end) c.loop-edge.invariant
