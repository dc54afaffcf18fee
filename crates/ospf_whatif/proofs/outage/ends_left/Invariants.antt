use Rattle.std.proofs.Common.{take}
use Rattle.ospf_whatif.specs.Outage.{AreMissing}
use Rattle.ospf_whatif.proofs.outage.ends_left.Given as goal

abbrev pub invariant-loop-end : goal.invariant-loop-end
invariant-loop-end l = AreMissing (take l.end-index l.ends) l.less l.left.items
