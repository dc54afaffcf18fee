use Rattle.std.proofs.Common.{◌≤◌, [], length, subst, arith}
use Rattle.std.proofs.lemmas.List.{take_all}
use Rattle.ospf_graph.specs.Adds.{Adds}
use Rattle.ospf_graph.proofs.EdgeLists.AddsLemmas.{adds_next}
use Rattle.ospf_harm.specs.Carrier.{EndGiven}
use Rattle.ospf_whatif.specs.Single.{GivenBy}
use Rattle.ospf_harm.proofs.CarrierLemmas.{adds_ordered}
use Rattle.ospf_harm.proofs.carrier.ends_of.Goals as goal

pub loop-failure-preserved : goal.loop-failure-preserved
loop-failure-preserved c =
    adds_next EndGiven c.args.single.now c.loop-failure.failure-index c.failure-item.result [] c.loop-failure.failures.items c.add_ends.new.failures.items c.loop-failure-test.true
    c.failure-item.is c.loop-failure.invariant c.in_ok-add_ends.ensures

pub returns-clause-all : goal.returns-clause-all
returns-clause-all c =
    let end : length c.args.single.now ≤ c.loop-failure.failure-index = omega (arith, c.loop-failure-test.false) in
    adds_ordered (GivenBy EndGiven c.args.single.now) [] c.loop-failure.failures.items c.put_in_order.new.failures.items c.put_in_order.ensures.same
    (subst (λ l. Adds (GivenBy EndGiven l) [] c.loop-failure.failures.items) (take_all c.loop-failure.failure-index c.args.single.now end) c.loop-failure.invariant)
