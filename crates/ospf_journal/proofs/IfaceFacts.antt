-- Interfaces that are others, link by link.
use Rattle.std.proofs.Common.{◌≡◌, ◌+◌, ◌++◌, ℕ, suc, List, sym, ap, ◌∙◌, append_assoc, arith}
use Rattle.ospf_journal.specs.Changes.{iface_change, iface_on, ifaces_changes}
use Rattle.ospf_journal.specs.Seen.{SeenLinkValue}
use Rattle.ospf_journal.specs.declared.change.RouterChange.{RouterChange}
use Rattle.ospf_journal.specs.declared.seen.SeenIface.{SeenIface}

pub one_iface_more : (start so_far more : List RouterChange) (before now : List SeenLinkValue) (link : ℕ) (a b : SeenIface) → so_far ≡ start ++ ifaces_changes before now link → a ≡ iface_on before link → b ≡ iface_on now link → more ≡ so_far ++ iface_change link a b → more ≡ start ++ ifaces_changes before now (link + 1)
one_iface_more start so_far more before now link a b is was stands grows =
    let next : link + 1 ≡ suc link = omega arith in
    grows ∙ ap (λ (i : SeenIface). so_far ++ iface_change link i b) was ∙ ap (λ (i : SeenIface). so_far ++ iface_change link (iface_on before link) i) stands
    ∙ ap (λ (cs : List RouterChange). cs ++ iface_change link (iface_on before link) (iface_on now link)) is
    ∙ append_assoc start (ifaces_changes before now link) (iface_change link (iface_on before link) (iface_on now link))
    ∙ ap (λ (n : ℕ). start ++ ifaces_changes before now n) (sym next)
