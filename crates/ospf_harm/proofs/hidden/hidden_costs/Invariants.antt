use Rattle.std.proofs.Common.{take}
use Rattle.ospf_graph.specs.Adds.{Adds}
use Rattle.ospf_graph.specs.EdgeLists.Listed.{advertisements_of}
use Rattle.ospf_harm.specs.Hidden.{HiddenGiven}
use Rattle.ospf_whatif.specs.Single.{GivenBy}
use Rattle.ospf_harm.proofs.hidden.hidden_costs.Given as goal

abbrev pub invariant-loop-edge : goal.invariant-loop-edge
invariant-loop-edge l = Adds (GivenBy (HiddenGiven (advertisements_of l.listing)) (take l.edge-index l.edge-items)) l.initial.hidden.items l.hidden.items
