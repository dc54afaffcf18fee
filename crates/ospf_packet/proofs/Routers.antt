-- Router IDs as entries of four bytes.
use Rattle.std.proofs.Common.{◌≡◌, ℕ, zero, suc, ◌*◌, List, [], ◌∷◌, length, refl, ap, arith}
use Rattle.ospf_base.specs.Bytes.{number_at}
use Rattle.ospf_base.specs.declared.ids.RouterId.{RouterId}
use Rattle.ospf_lsa.specs.Attached.{routers_in}
use Rattle.ospf_packet.specs.Entries.{packet_entries_in}

abbrev pub router_at : List ℕ → RouterId
router_at bytes = record { 0 = number_at 0 4 bytes }

pub routers_entries : (n : ℕ) (bytes : List ℕ) → length bytes ≡ n * 4 → routers_in bytes ≡ packet_entries_in 4 router_at n bytes
routers_entries zero [] len = refl
routers_entries zero (a ∷ rest) len = absurd (omega arith)
routers_entries (suc n) [] len = absurd (omega arith)
routers_entries (suc n) (a ∷ []) len = absurd (omega arith)
routers_entries (suc n) (a ∷ b ∷ []) len = absurd (omega arith)
routers_entries (suc n) (a ∷ b ∷ c ∷ []) len = absurd (omega arith)
routers_entries (suc n) (a ∷ b ∷ c ∷ d ∷ rest) len =
    ap (λ (rs : List RouterId). router_at (a ∷ b ∷ c ∷ d ∷ []) ∷ rs) (routers_entries n rest (omega arith))
