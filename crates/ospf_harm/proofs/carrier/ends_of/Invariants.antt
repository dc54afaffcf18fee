use Rattle.std.proofs.Common.{[], take}
use Rattle.ospf_graph.specs.Adds.{Adds}
use Rattle.ospf_harm.specs.Carrier.{EndGiven}
use Rattle.ospf_whatif.specs.Single.{GivenBy}
use Rattle.ospf_harm.proofs.carrier.ends_of.Given as goal

abbrev pub invariant-loop-failure : goal.invariant-loop-failure
invariant-loop-failure l = Adds (GivenBy EndGiven (take l.failure-index l.single)) [] l.failures.items
