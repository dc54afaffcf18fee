use Rattle.std.proofs.Common.{◌∙◌, string_bytes}
use Rattle.ospf_harm.specs.HarmLines.{report_harm_lines}
use Rattle.ospf_harm.proofs.JsonLemmas.{text_next}
use Rattle.ospf_harm.proofs.report.reports_harm_text.Goals as goal

pub loop-report-preserved : goal.loop-report-preserved
loop-report-preserved c =
    text_next (report_harm_lines c.args.each) c.args.reports.now c.loop-report.report-index c.report-item.result (string_bytes c.loop-report.text) c.deref.result.now (string_bytes c.push_str.new.self)
    c.loop-report-test.true c.report-item.is c.loop-report.invariant (c.deref.ensures ∙ c.in_ok-harm_lines.ensures) c.in_ok-push_str.ensures.bytes
