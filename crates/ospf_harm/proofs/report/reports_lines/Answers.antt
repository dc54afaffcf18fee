use Rattle.std.proofs.Common.{◌∙◌, ap, string_bytes}
use Rattle.serde_json.specs.Data.{Data}
use Rattle.serde_json.specs.Written.{has_float}
use Rattle.ospf_table.specs.Objects.{data_line}
use Rattle.ospf_harm.specs.HarmLines.{report_line_data}
use Rattle.ospf_harm.specs.Reports.{ReportValue}
use Rattle.ospf_harm.proofs.JsonLemmas.{report_line_none, text_next}
use Rattle.ospf_harm.proofs.report.reports_lines.Goals as goal

pub data_line-requires : goal.data_line-requires
data_line-requires c =
    ap (λ (d : Data). has_float d) c.in_ok-value.ensures ∙ report_line_none c.args.each c.args.root c.args.hidden.now c.report-item.result

pub loop-report-preserved : goal.loop-report-preserved
loop-report-preserved c =
    let line = λ (r : ReportValue). data_line (report_line_data c.args.each c.args.root c.args.hidden.now r) in
    text_next line c.args.reports.now c.loop-report.report-index c.report-item.result (string_bytes c.loop-report.text) c.deref.result.now (string_bytes c.push_str.new.self)
    c.loop-report-test.true c.report-item.is c.loop-report.invariant (c.deref.ensures ∙ c.in_ok-data_line.ensures ∙ ap data_line c.in_ok-value.ensures) c.in_ok-push_str.ensures.bytes
