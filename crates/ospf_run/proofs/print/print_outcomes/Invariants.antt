use Rattle.std.proofs.Common.{take}
use Rattle.std.specs.Io.KnownBytes.{Appends}
use Rattle.ospf_run.specs.Printed.{report_lines}
use Rattle.ospf_run.proofs.print.print_outcomes.Given as goal

-- the outcomes so far are printed
abbrev pub invariant-loop-outcome : goal.invariant-loop-outcome
invariant-loop-outcome g l = Appends (g.O.Write.contents l.fn.out) (g.O.Write.contents l.out) (report_lines l.extras (take l.outcome-index l.outcomes))
