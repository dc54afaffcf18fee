use Rattle.std.proofs.Common.{rules, ◌≡◌, ◌∙◌, true, false, inl, string_bytes, sym}
use Rattle.ospf_table.specs.Output.{unlisted_line}
use Rattle.ospf_change.proofs.diff.report.unlisted_text.Goals as goal

pub returns : goal.returns
returns c =
    let shown : string_bytes c.in_ok-text.text ≡ unlisted_line c.args.router = search (rules, c.in_ok-text.ensures.ok) in
    inl ((λ listed. (let both : true ≡ false = sym (c.is_listed.ensures.1 listed) ∙ c.if-is_listed.false in cc)), shown)
