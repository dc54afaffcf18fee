use Rattle.std.proofs.Common.{rules, ◌≡◌, ◌∙◌, ◌++◌, ap, string_bytes}
use Rattle.ospf_files.specs.Files.{refused_line}
use Rattle.ospf_check.proofs.check.refusal.Goals as goal

pub returns : goal.returns
returns c refused =
    let line = refused_line c.args.file.now c.args.fault in
    let front : string_bytes c.in_ok-lines.lines ≡ line = search rules in
    (string_bytes c.in_ok-more.more, c.in_ok-more.ensures c.args.fault refused, c.in_ok-push_str.ensures.bytes ∙ ap (λ l. l ++ c.deref.result.now) front ∙ ap (λ l. line ++ l) c.deref.ensures)
