use Rattle.std.proofs.Common.{take}
use Rattle.ospf_graph.specs.Adds.{Adds}
use Rattle.ospf_whatif.specs.Single.{GivenBy, EdgeGiven}
use Rattle.ospf_whatif.proofs.failures.add_edges.Given as goal

abbrev pub invariant-loop-edge : goal.invariant-loop-edge
invariant-loop-edge l = Adds (GivenBy (EdgeGiven l.wired) (take l.edge-index l.edges)) l.initial.failures.items l.failures.items
