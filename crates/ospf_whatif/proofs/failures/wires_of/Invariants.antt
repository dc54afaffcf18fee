use Rattle.std.proofs.Common.{take}
use Rattle.ospf_graph.specs.Adds.{Adds}
use Rattle.ospf_graph.specs.EdgeLists.Listed.{advertisements_of}
use Rattle.ospf_whatif.specs.Single.{GivenBy, WireGiven}
use Rattle.ospf_whatif.proofs.failures.wires_of.Given as goal

abbrev pub invariant-loop-edge : goal.invariant-loop-edge
invariant-loop-edge l = Adds (GivenBy (WireGiven (advertisements_of l.listing)) (take l.edge-index l.edges)) l.initial.wires.items l.wires.items
