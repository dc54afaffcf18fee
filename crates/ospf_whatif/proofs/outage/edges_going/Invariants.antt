use Rattle.std.proofs.Common.{take}
use Rattle.std.specs.List.{Contains}
use Rattle.ospf_whatif.specs.Lost.{Stays}
use Rattle.ospf_whatif.specs.Outage.{AreLost}
use Rattle.ospf_whatif.proofs.outage.edges_going.Given as goal

abbrev pub invariant-loop-edge : goal.invariant-loop-edge
invariant-loop-edge l = AreLost (Contains (take l.edge-index l.near)) (Stays l.failure l.inner l.near) l.lost.items
