use Rattle.std.proofs.Common.{rules, ◌≡◌, ◌∙◌, ◌++◌, append_assoc, codes, string_bytes, subst, sym, List, ℕ}
use Rattle.ospf_change.specs.Edit.Words.{IsHintOf}
use Rattle.ospf_change.proofs.edit.words.message.Goals as goal

pub returns : goal.returns
returns c =
    let word = string_bytes c.args.word.now in
    let hint = string_bytes c.in_ok-hint.hint in
    let flat : string_bytes c.in_ok-format.field-0 ≡ word ++ (codes ": not in this area\n" ++ hint) = search (rules, c.in_ok-format.ensures.ok) in
    (hint, subst (λ (t : List ℕ). IsHintOf c.args.single.now c.args.kind t hint) c.deref.ensures c.in_ok-hint.ensures, flat ∙ sym (append_assoc word (codes ": not in this area\n") hint))
