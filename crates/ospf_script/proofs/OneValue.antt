-- A word spells one value at most.
use Rattle.std.proofs.Common.{◌≡◌, ℕ, ℤ, sym, ap, ◌∙◌}
use Rattle.std.specs.Int.{w32, cast_signed}
use Rattle.ospf_base.specs.declared.ids.Addr.{Addr}
use Rattle.ospf_base.specs.declared.ids.RouterId.{RouterId}
use Rattle.ospf_base.proofs.Dotted.{dotted_one}
use Rattle.ospf_script.specs.Values.{IsAddress, IsDecimal, IsDotted32, IsFloor, IsPercent, IsRouterWord}
use Rattle.ospf_script.specs.Words.{Text}

pub number_one : (word : Text) (m n : ℕ) → IsDotted32 word m → IsDotted32 word n → m ≡ n
number_one word m n h k = dotted_one word m n h.1 k.1 h.0 k.0

router_with : ℕ → RouterId
router_with n = record { 0 = n }

pub router_one : (word : Text) (r s : RouterId) → IsRouterWord word r → IsRouterWord word s → r ≡ s
unfolding router_with
router_one word r s h k = ap router_with (number_one word r.0 s.0 h k)

address_with : ℕ → Addr
address_with n = record { 0 = n }

pub address_one : (word : Text) (a b : Addr) → IsAddress word a → IsAddress word b → a ≡ b
unfolding address_with
address_one word a b h k = ap address_with (number_one word a.0 b.0 h k)

pub decimal_one : (bits : ℕ) (word : Text) (m n : ℕ) → IsDecimal bits word m → IsDecimal bits word n → m ≡ n
decimal_one bits word m n h k = sym h.0.1 ∙ k.0.1

pub percent_one : (word : Text) (m n : ℕ) → IsPercent word m → IsPercent word n → m ≡ n
percent_one word m n h k = sym h.0.1 ∙ k.0.1

pub floor_one : (word : Text) (x y : ℤ) → IsFloor word x → IsFloor word y → x ≡ y
floor_one word x y h k = h.floor_is ∙ ap (cast_signed w32) (sym h.spelled.1 ∙ k.spelled.1) ∙ sym k.floor_is
