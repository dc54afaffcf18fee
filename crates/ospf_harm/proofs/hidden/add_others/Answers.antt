use Rattle.std.proofs.Common.{◌≤◌, length, subst, arith}
use Rattle.std.proofs.lemmas.List.{take_all}
use Rattle.ospf_graph.specs.Adds.{Adds}
use Rattle.ospf_graph.proofs.EdgeLists.AddsLemmas.{adds_start}
use Rattle.ospf_harm.specs.Hidden.{OtherGiven}
use Rattle.ospf_whatif.specs.Single.{GivenBy}
use Rattle.ospf_whatif.proofs.SingleLemmas.{adds_at, no_edge}
use Rattle.ospf_harm.proofs.hidden.add_others.Goals as goal

pub loop-edge-init : goal.loop-edge-init
loop-edge-init c = adds_start (OtherGiven c.args.near.now c.args.router c.args.network) c.args.hidden.now.items

pub loop-edge-preserved : goal.loop-edge-preserved
loop-edge-preserved c =
    adds_at (OtherGiven c.args.near.now c.args.router c.args.network) c.args.near.now c.loop-edge.edge-index no_edge c.args.hidden.now.items c.loop-edge.hidden.items
    c.add_other.new.hidden.items c.loop-edge-test.true c.loop-edge.invariant c.in_ok-add_other.ensures

pub returns : goal.returns
returns c =
    let P = OtherGiven c.args.near.now c.args.router c.args.network in
    let end : length c.args.near.now ≤ c.loop-edge.edge-index = omega (arith, c.loop-edge-test.false) in
    subst (λ l. Adds (GivenBy P l) c.args.hidden.now.items c.loop-edge.hidden.items) (take_all c.loop-edge.edge-index c.args.near.now end) c.loop-edge.invariant
