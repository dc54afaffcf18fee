use Rattle.std.proofs.Common.{◌≤◌, length, subst, ◌∙◌, arith}
use Rattle.std.proofs.lemmas.List.{take_all}
use Rattle.ospf_graph.specs.Adds.{Adds}
use Rattle.ospf_graph.proofs.EdgeLists.AddsLemmas.{adds_next, adds_start}
use Rattle.ospf_whatif.specs.Single.{GivenBy}
use Rattle.ospf_whatif.specs.Stubs.{StubGivenBy}
use Rattle.ospf_graph.specs.EdgeLists.Listed.{advertisement_of}
use Rattle.ospf_whatif.proofs.stubs.add_stubs.Goals as goal

pub loop-lsa-init : goal.loop-lsa-init
loop-lsa-init c = adds_start (λ lsa. StubGivenBy (advertisement_of lsa)) c.args.failures.now.items

pub loop-lsa-preserved : goal.loop-lsa-preserved
loop-lsa-preserved c =
    adds_next (λ lsa. StubGivenBy (advertisement_of lsa)) c.lsas-lsa-items.result.now c.loop-lsa.lsa-index c.lsa-item.result c.args.failures.now.items c.loop-lsa.failures.items c.add_stubs_of.new.failures.items c.loop-lsa-test.true c.lsa-item.is c.loop-lsa.invariant c.in_ok-add_stubs_of.ensures

pub returns : goal.returns
returns c =
    let end : length c.lsas-lsa-items.result.now ≤ c.loop-lsa.lsa-index = omega (arith, c.loop-lsa-test.false) in
    subst (λ l. Adds (GivenBy (λ lsa. StubGivenBy (advertisement_of lsa)) l) c.args.failures.now.items c.loop-lsa.failures.items)
    (take_all c.loop-lsa.lsa-index c.lsas-lsa-items.result.now end ∙ c.lsas-lsa-items.ensures.lsas) c.loop-lsa.invariant
