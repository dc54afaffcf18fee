use Rattle.std.proofs.Common.{Option, length}
use Rattle.ospf_base.specs.declared.ids.RouterId.{RouterId}
use Rattle.ospf_commands.specs.Judged.{AreFirstToDiffer}
use Rattle.ospf_commands.proofs.agreement.apart.Given as goal

-- what is so of the rest is so of all
abbrev pub invariant-loop-slot : goal.invariant-loop-slot
invariant-loop-slot l = (found : Option (RouterId × RouterId)) → AreFirstToDiffer l.rest found → AreFirstToDiffer l.slots found

abbrev pub decreases-loop-slot : goal.decreases-loop-slot
decreases-loop-slot l = length l.rest
