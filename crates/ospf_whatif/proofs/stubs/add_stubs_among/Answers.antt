use Rattle.std.proofs.Common.{◌≤◌, length, subst, arith}
use Rattle.std.proofs.lemmas.List.{get_or_default, take_all}
use Rattle.ospf_graph.specs.Adds.{Adds}
use Rattle.ospf_graph.proofs.EdgeLists.AddsLemmas.{adds_next, adds_start}
use Rattle.ospf_whatif.specs.Single.{GivenBy}
use Rattle.ospf_whatif.specs.Stubs.{StubGiven}
use Rattle.ospf_whatif.proofs.stubs.add_stubs_among.Goals as goal

pub loop-link-init : goal.loop-link-init
loop-link-init c = adds_start (StubGiven c.args.router c.args.links.now) c.args.failures.now.items

pub loop-link-preserved : goal.loop-link-preserved
loop-link-preserved c =
    adds_next (StubGiven c.args.router c.args.links.now) c.args.links.now c.loop-link.link-index _ c.args.failures.now.items c.loop-link.failures.items
    c.add_stub.new.failures.items c.loop-link-test.true (get_or_default c.args.links.now c.loop-link.link-index _ _ c.loop-link-test.true) c.loop-link.invariant c.in_ok-add_stub.ensures

pub returns : goal.returns
returns c =
    let P = StubGiven c.args.router c.args.links.now in
    let end : length c.args.links.now ≤ c.loop-link.link-index = omega (arith, c.loop-link-test.false) in
    subst (λ l. Adds (GivenBy P l) c.args.failures.now.items c.loop-link.failures.items) (take_all c.loop-link.link-index c.args.links.now end) c.loop-link.invariant
