use Rattle.std.proofs.Common.{◌+◌, ◌-◌, length}
use Rattle.ospf_spf.proofs.ChangeLemmas.{IsMerged}
use Rattle.ospf_spf.proofs.changes.changes_of.Given as goal

abbrev pub invariant-loop-step : goal.invariant-loop-step
invariant-loop-step l = IsMerged l.old l.new l.i l.j l.changes.items

abbrev pub decreases-loop-step : goal.decreases-loop-step
decreases-loop-step l = (length l.old - l.i) + (length l.new - l.j)
