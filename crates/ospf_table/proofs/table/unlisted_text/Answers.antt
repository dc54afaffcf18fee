use Rattle.std.proofs.Common.{rules, ◌≡◌, inl, refl, string_bytes}
use Rattle.ospf_table.specs.Output.{unlisted_line}
use Rattle.ospf_table.proofs.table.unlisted_text.Goals as goal

pub returns-in_ok-text : goal.returns-in_ok-text
returns-in_ok-text c =
    let shown : string_bytes c.in_ok-text.text ≡ unlisted_line c.args.root = search (rules, c.in_ok-text.ensures.ok) in
    inl (c.if-is_unlisted.ensures.0 refl, shown)
