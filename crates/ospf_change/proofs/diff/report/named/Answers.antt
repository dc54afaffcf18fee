use Rattle.std.proofs.Common.{rules, ◌≡◌, ◌∙◌, ◌++◌, append_assoc, string_bytes, sym}
use Rattle.std.specs.Prelude.{codes}
use Rattle.ospf_change.proofs.Diffs.ReportLemmas.{named_line}
use Rattle.ospf_change.proofs.diff.report.named.Goals as goal

pub returns-in_ok-format : goal.returns-in_ok-format
returns-in_ok-format c =
    let shown : string_bytes c.in_ok-format.field-0 ≡ c.args.name.now ++ (codes ": " ++ c.args.line.now) = search (rules, c.in_ok-format.ensures.ok) in
    shown ∙ sym (append_assoc c.args.name.now (codes ": ") c.args.line.now) ∙ sym (named_line c.args.name.now c.args.line.now (sym c.is_empty.ensures ∙ c.if-is_empty.false))
