use Rattle.std.proofs.Common.{◌∙◌, ◌++◌, ℕ, List, ap, string_bytes}
use Rattle.ospf_harm.proofs.warnings.router_warnings.Goals as goal

pub returns : goal.returns
returns c =
    let own = string_bytes c.in_ok-text.text in
    let more = string_bytes c.in_ok-area_warnings.field-0 in
    (own, more, c.in_ok-text.ensures, c.in_ok-area_warnings.ensures, c.in_ok-push_str.ensures.bytes ∙ ap (λ (l : List ℕ). own ++ l) c.deref.ensures)
