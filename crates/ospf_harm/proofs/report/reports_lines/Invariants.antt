use Rattle.std.proofs.Common.{◌≡◌, string_bytes, take}
use Rattle.ospf_harm.specs.HarmLines.{reports_lines}
use Rattle.ospf_harm.proofs.report.reports_lines.Given as goal

-- the lines of the reports so far
abbrev pub invariant-loop-report : goal.invariant-loop-report
invariant-loop-report l = string_bytes l.text ≡ reports_lines l.each l.root l.hidden (take l.report-index l.reports)
