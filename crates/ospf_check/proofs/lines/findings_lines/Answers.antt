use Rattle.std.proofs.Common.{rules, ◌≡◌, ◌++◌, ◌∙◌, ap, string_bytes}
use Rattle.serde_json.specs.Written.{has_float}
use Rattle.ospf_check.specs.Lines.{finding_line, value_line}
use Rattle.ospf_check.proofs.JsonLemmas.{finding_plain}
use Rattle.ospf_check.proofs.LineLemmas.{text_next}
use Rattle.ospf_check.proofs.lines.findings_lines.Goals as goal

pub line_of-requires : goal.line_of-requires
line_of-requires c = ap has_float c.in_ok-value.ensures ∙ finding_plain c.args.files.now c.finding-item.result

pub loop-finding-preserved : goal.loop-finding-preserved
loop-finding-preserved c =
    let text : string_bytes c.push_str.new.self ≡ string_bytes c.loop-finding.text ++ string_bytes c.in_ok-line_of.field-0 = search rules in
    text_next (finding_line c.args.files.now) c.args.findings.now c.loop-finding.finding-index c.finding-item.result _ _ _ c.loop-finding-test.true c.finding-item.is c.loop-finding.invariant
    (c.in_ok-line_of.ensures ∙ ap value_line c.in_ok-value.ensures) text
