use Rattle.std.proofs.Common.{◌≡◌, string_bytes, take}
use Rattle.ospf_harm.specs.HarmLines.{reports_harm_text}
use Rattle.ospf_harm.proofs.report.reports_harm_text.Given as goal

-- the lines of the reports so far
abbrev pub invariant-loop-report : goal.invariant-loop-report
invariant-loop-report l = string_bytes l.text ≡ reports_harm_text l.each (take l.report-index l.reports)
