use Rattle.std.proofs.Common.{take}
use Rattle.ospf_graph.specs.Adds.{Adds}
use Rattle.ospf_harm.specs.Hidden.{OtherGiven}
use Rattle.ospf_whatif.specs.Single.{GivenBy}
use Rattle.ospf_harm.proofs.hidden.add_others.Given as goal

abbrev pub invariant-loop-edge : goal.invariant-loop-edge
invariant-loop-edge l = Adds (GivenBy (OtherGiven l.near l.router l.network) (take l.edge-index l.near)) l.initial.hidden.items l.hidden.items
