use Rattle.std.proofs.Common.{take}
use Rattle.std.specs.Io.KnownBytes.{Appends}
use Rattle.ospf_run.specs.Printed.{report_told}
use Rattle.ospf_run.proofs.print.tell_outcomes.Given as goal

-- the outcomes so far are told
abbrev pub invariant-loop-outcome : goal.invariant-loop-outcome
invariant-loop-outcome g l = Appends (g.E.Write.contents l.fn.err) (g.E.Write.contents l.err) (report_told (take l.outcome-index l.outcomes))
