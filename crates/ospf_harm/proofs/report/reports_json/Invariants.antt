use Rattle.std.proofs.Common.{◌≡◌, map, take}
use Rattle.serde_json.specs.View.{view}
use Rattle.ospf_harm.specs.Json.{report_data}
use Rattle.ospf_harm.proofs.report.reports_json.Given as goal

-- those so far
abbrev pub invariant-loop-report : goal.invariant-loop-report
invariant-loop-report l = map view l.objects.items ≡ map (report_data l.each l.root l.hidden) (take l.report-index l.reports)
