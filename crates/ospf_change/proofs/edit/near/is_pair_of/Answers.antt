use Rattle.std.proofs.Common.{rules, ◌≡◌, ◌∙◌, ◌++◌, append_assoc, codes, string_bytes, sym}
use Rattle.std.proofs.lemmas.Bool.Decides.{Decides-eqb}
use Rattle.std.proofs.lemmas.Slice.Eq.{slice_eq-Decides}
use Rattle.ospf_base.specs.Text.{number_text}
use Rattle.ospf_change.specs.Edit.Words.{pair_text}
use Rattle.ospf_change.proofs.edit.near.is_pair_of.Goals as goal

pub returns : goal.returns
returns c =
    let flat : string_bytes c.in_ok-text.text ≡ number_text c.args.a.0 ++ (codes "-" ++ number_text c.args.b.0) = search (rules, c.in_ok-text.ensures.ok) in
    let shown : string_bytes c.in_ok-text.text ≡ pair_text c.args.a c.args.b = flat ∙ sym (append_assoc (number_text c.args.a.0) (codes "-") (number_text c.args.b.0)) in
    let text : c.as_str.result.now ≡ pair_text c.args.a c.args.b = c.as_str.ensures.value ∙ shown in
    let by = slice_eq-Decides Decides-eqb _ _ _ c.eq.ensures in
    (λ t. sym text ∙ by.0 t, λ e. by.1 (text ∙ e))
