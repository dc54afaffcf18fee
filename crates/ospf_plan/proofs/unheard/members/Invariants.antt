use Rattle.std.proofs.Common.{take}
use Rattle.ospf_plan.specs.Unheard.{AreByNetwork}
use Rattle.ospf_plan.proofs.unheard.members.Given as goal

abbrev pub invariant-loop-end : goal.invariant-loop-end
invariant-loop-end l = AreByNetwork l.map (take l.end-index l.ends)
