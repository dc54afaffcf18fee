use Rattle.std.proofs.Common.{◌≡◌, take}
use Rattle.ospf_harm.specs.Harm.{worst_rise}
use Rattle.ospf_harm.proofs.harm.worst_rise.Given as goal

-- the worst so far
abbrev pub invariant-loop-change : goal.invariant-loop-change
invariant-loop-change l = l.worst ≡ worst_rise (take l.change-index l.changes)
