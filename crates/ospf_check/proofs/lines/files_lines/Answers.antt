use Rattle.std.proofs.Common.{rules, ◌≡◌, ◌++◌, [], string_bytes, subst, sym}
use Rattle.std.proofs.lemmas.List.{take_all}
use Rattle.ospf_check.specs.Lines.{AreFileLines, no_file}
use Rattle.ospf_check.proofs.LineLemmas.{file_next}
use Rattle.ospf_check.proofs.lines.files_lines.Goals as goal

pub loop-file-init : goal.loop-file-init
loop-file-init c =
    let none : string_bytes c.new-text.result ≡ [] = search (rules, c.new-text.ensures.bytes) in
    subst (AreFileLines []) (sym none) no_file

pub loop-file-preserved : goal.loop-file-preserved
loop-file-preserved c =
    let text : string_bytes c.push_str.new.self ≡ string_bytes c.loop-file.text ++ string_bytes c.in_ok-file_line.field-0 = search rules in
    subst (AreFileLines _) (sym text)
    (file_next c.args.files.now c.loop-file.file-index c.file-item.result _ _ c.loop-file-test.true c.file-item.is c.loop-file.invariant c.in_ok-file_line.ensures)

pub returns : goal.returns
returns c =
    subst (λ files. AreFileLines files (string_bytes c.loop-file.text)) (take_all c.loop-file.file-index c.args.files.now c.loop-file-test.false) c.loop-file.invariant
