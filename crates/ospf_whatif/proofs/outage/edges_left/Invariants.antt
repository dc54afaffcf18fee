use Rattle.std.proofs.Common.{take}
use Rattle.ospf_whatif.specs.Outage.{AreMissing}
use Rattle.ospf_whatif.proofs.outage.edges_left.Given as goal

abbrev pub invariant-loop-edge : goal.invariant-loop-edge
invariant-loop-edge l = AreMissing (take l.edge-index l.edges) l.left l.missing.items
