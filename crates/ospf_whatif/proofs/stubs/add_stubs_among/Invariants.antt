use Rattle.std.proofs.Common.{take}
use Rattle.ospf_graph.specs.Adds.{Adds}
use Rattle.ospf_whatif.specs.Single.{GivenBy}
use Rattle.ospf_whatif.specs.Stubs.{StubGiven}
use Rattle.ospf_whatif.proofs.stubs.add_stubs_among.Given as goal

abbrev pub invariant-loop-link : goal.invariant-loop-link
invariant-loop-link l = Adds (GivenBy (StubGiven l.router l.links) (take l.link-index l.links)) l.initial.failures.items l.failures.items
