use Rattle.std.proofs.Common.{◌≡◌, ◌∙◌, ◌++◌, ℕ, List, ap, ap₂, string_bytes}
use Rattle.ospf_harm.specs.Warnings.{hidden_text}
use Rattle.ospf_harm.specs.declared.hidden.HiddenCost.{HiddenCost}
use Rattle.ospf_harm.proofs.warnings.area_warnings.Goals as goal

pub returns : goal.returns
returns c =
    let hidden = c.in_ok-hidden.hidden.items in
    let costs : string_bytes c.in_ok-text.text ≡ hidden_text hidden = c.in_ok-text.ensures ∙ ap (λ (l : List HiddenCost). hidden_text l) c.deref.ensures.value in (
      hidden,
      c.in_ok-hidden.ensures,
      c.in_ok-push_str.ensures.bytes ∙ ap₂ (λ (a b : List ℕ). a ++ b) costs (c.deref-2.ensures ∙ c.in_ok-reasons_text.ensures),
    )
