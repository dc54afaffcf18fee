use Rattle.std.proofs.Common.{take}
use Rattle.ospf_graph.specs.Adds.{Adds}
use Rattle.ospf_whatif.specs.Single.{GivenBy}
use Rattle.ospf_whatif.specs.Stubs.{StubGivenBy}
use Rattle.ospf_graph.specs.EdgeLists.Listed.{advertisement_of}
use Rattle.ospf_whatif.proofs.stubs.add_stubs.Given as goal

abbrev pub invariant-loop-lsa : goal.invariant-loop-lsa
invariant-loop-lsa l = Adds (GivenBy (λ lsa. StubGivenBy (advertisement_of lsa)) (take l.lsa-index l.lsa-items)) l.initial.failures.items l.failures.items
