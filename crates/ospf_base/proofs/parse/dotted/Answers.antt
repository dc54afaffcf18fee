use Rattle.std.proofs.Common.{◌≡◌, ℕ, zero, suc, ◌<◌, List, [], ◌∷◌, length, get_or, sym, ap, subst, arith}
use Rattle.std.specs.Int.{w32, to_be_bytes, from_be_bytes}
use Rattle.std.specs.Net.Addr.{ipv4_bits}
use Rattle.std.specs.Net.Grammar.{IsDotted}
use Rattle.std.proofs.lemmas.Nat.{be_bytes_4}
use Rattle.ospf_base.specs.Text.{IsDottedNumber}
use Rattle.ospf_base.proofs.parse.dotted.Goals as goal

cells : (a b c d : ℕ) → a < 256 → b < 256 → c < 256 → d < 256 → (i : ℕ) → get_or (a ∷ b ∷ c ∷ d ∷ []) i 0 < 256
cells a b c d p q r s zero = p
cells a b c d p q r s (suc zero) = q
cells a b c d p q r s (suc (suc zero)) = r
cells a b c d p q r s (suc (suc (suc zero))) = s
cells a b c d p q r s (suc (suc (suc (suc i)))) = omega arith

-- the bytes of the number that four octets make are the octets
octets_again : (text octets : List ℕ) (n : ℕ) → IsDotted text octets → n ≡ from_be_bytes w32 octets → IsDottedNumber text n
octets_again text octets n d is =
    let fit = d.fit in
    let small : (i : ℕ) → get_or octets i 0 < 256 = rw d.value (cells d.a d.b d.c d.d fit.0 fit.1 fit.2 fit.3) in
    let same : to_be_bytes w32 n ≡ octets = be_bytes_4 octets n (ap length d.value) small is in
    subst (λ bytes. IsDotted text bytes) (sym same) d

pub returns-in-Ok : goal.returns-in-Ok
unfolding ipv4_bits
returns-in-Ok c = octets_again c.args.text.now c.in-Ok.address.octets c.to_bits.result c.in-Ok.ensures.value c.to_bits.ensures

pub returns-in-Err : goal.returns-in-Err
returns-in-Err c = λ n d. c.in-Err.ensures.value (record { octets = to_be_bytes w32 n }) d
