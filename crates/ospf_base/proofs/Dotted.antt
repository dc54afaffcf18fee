-- Numbers as addresses are written: each is spelled by one text, which is read again at the front of another.
use Rattle.std.proofs.Common.{◌≡◌, ◌≢◌, ℕ, zero, suc, ◌^◌, ◌<◌, List, ◌∷◌, ◌++◌, [], get_or, Some, refl, sym, ap, ◌∙◌, subst, arith}
use Rattle.std.specs.Int.{w32, to_be_bytes, from_be_bytes}
use Rattle.std.specs.List.{All}
use Rattle.std.specs.Net.Reader.{read_ipv4}
use Rattle.std.specs.Net.Text.{ipv4_text}
use Rattle.std.specs.declared.net.ipv4_addr.Ipv4Addr.{Ipv4Addr}
use Rattle.std.proofs.NetLemmas.Alphabet.{IsDigitOrDot, All-ipv4_text}
use Rattle.std.proofs.NetLemmas.Ipv4.{read_ipv4_complete, read_ipv4_none}
use Rattle.std.proofs.NetLemmas.Numbers.{NoDigit}
use Rattle.std.proofs.NetLemmas.Options.{same_parts}
use Rattle.std.proofs.NetLemmas.Texts.{IsDotted-ipv4_text}
use Rattle.std.proofs.NetLemmas.Theorems.{IsIpv4Text_unique}
use Rattle.std.proofs.lemmas.List.Elements.{All-weaker}
use Rattle.std.proofs.lemmas.Nat.{from_be_bytes-to_be_bytes_4}
use Rattle.std.proofs.lemmas.Option.{none-some}
use Rattle.ospf_base.specs.Text.{IsDottedNumber, number_text}

octet : (n k : ℕ) → get_or (to_be_bytes w32 n) k 0 < 2 ^ 8
octet n zero = omega arith
octet n (suc zero) = omega arith
octet n (suc (suc zero)) = omega arith
octet n (suc (suc (suc zero))) = omega arith
octet n (suc (suc (suc (suc k)))) = omega arith

-- what is written of a number spells it
pub number_spells : (n : ℕ) → IsDottedNumber (number_text n) n
unfolding number_text
number_spells n = IsDotted-ipv4_text (to_be_bytes w32 n) refl (octet n)

-- and what spells it is written of it
pub spelled_is_written : (text : List ℕ) (n : ℕ) → IsDottedNumber text n → text ≡ number_text n
unfolding number_text
spelled_is_written text n h = h.spelled ∙ ap ipv4_text (sym h.value)

-- a text spells one number at most
pub dotted_one : (text : List ℕ) (m n : ℕ) → m < 2 ^ 32 → n < 2 ^ 32 → IsDottedNumber text m → IsDottedNumber text n → m ≡ n
dotted_one text m n hm hn dm dn =
    let a : Ipv4Addr = record { octets = to_be_bytes w32 m } in
    let b : Ipv4Addr = record { octets = to_be_bytes w32 n } in
    let same : to_be_bytes w32 m ≡ to_be_bytes w32 n = ap (λ (x : Ipv4Addr). x.octets) (IsIpv4Text_unique text a b dm dn) in
    sym (from_be_bytes-to_be_bytes_4 m hm) ∙ ap (from_be_bytes w32) same ∙ from_be_bytes-to_be_bytes_4 n hn

-- digits and dots stand in it
pub number_bytes : (n : ℕ) → All IsDigitOrDot (number_text n)
unfolding number_text
number_bytes n = All-ipv4_text (to_be_bytes w32 n) (octet n)

pub dotted_bytes : (text : List ℕ) (n : ℕ) → IsDottedNumber text n → All IsDigitOrDot text
dotted_bytes text n h = subst (All IsDigitOrDot) (sym (spelled_is_written text n h)) (number_bytes n)

-- no byte of a text is this one
abbrev pub HasNo : ℕ → List ℕ → Type 0
HasNo byte text = All (λ b. b ≢ byte) text

-- and so none but digits and dots
pub dotted_has_no : (byte : ℕ) → (IsDigitOrDot byte → ⊥) → (text : List ℕ) (n : ℕ) → IsDottedNumber text n → HasNo byte text
dotted_has_no byte other text n h =
    All-weaker IsDigitOrDot (λ b. b ≢ byte) (λ b is e. other (subst IsDigitOrDot e is)) text (dotted_bytes text n h)

-- texts that are one are so before the first such byte, and behind it
pub one_cut : (byte : ℕ) (xs ys us vs : List ℕ) → HasNo byte xs → HasNo byte us → xs ++ byte ∷ ys ≡ us ++ byte ∷ vs → (xs ≡ us) × (ys ≡ vs)
one_cut byte [] ys [] vs h k e = (refl, (let same : ys ≡ vs = cc in same))
one_cut byte [] ys (u ∷ us) vs h k e = absurd (k 0 0 (omega arith) (let same : u ≡ byte = cc in same))
one_cut byte (x ∷ xs) ys [] vs h k e = absurd (h 0 0 (omega arith) (let same : x ≡ byte = cc in same))
one_cut byte (x ∷ xs) ys (u ∷ us) vs h k e =
    let first : x ≡ u = cc in
    let behind : xs ++ byte ∷ ys ≡ us ++ byte ∷ vs = cc in
    let others = one_cut byte xs ys us vs (λ i d l. h (suc i) d (omega (arith, l))) (λ i d l. k (suc i) d (omega (arith, l))) behind in
    ((let same = others.0 in let all : x ∷ xs ≡ u ∷ us = cc in all), others.1)

-- the number and the text behind it are read again
read_back : (n : ℕ) (rest : List ℕ) → NoDigit 10 rest → read_ipv4 (number_text n ++ rest) ≡ Some (to_be_bytes w32 n, rest)
read_back n rest stop = read_ipv4_complete (number_text n) (to_be_bytes w32 n) rest (number_spells n) stop

-- the numbers at the front of two texts are one, and so is what stands behind them
pub same_number : (m n : ℕ) (xs ys : List ℕ) → m < 2 ^ 32 → n < 2 ^ 32 → NoDigit 10 xs → NoDigit 10 ys → number_text m ++ xs ≡ number_text n ++ ys → (m ≡ n) × (xs ≡ ys)
same_number m n xs ys hm hn sx sy e =
    let parts = same_parts _ _ _ _ (sym (read_back m xs sx) ∙ ap read_ipv4 e ∙ read_back n ys sy) in
    (sym (from_be_bytes-to_be_bytes_4 m hm) ∙ ap (from_be_bytes w32) parts.0 ∙ from_be_bytes-to_be_bytes_4 n hn, parts.1)

-- no number stands at the front of a text that begins with another byte than a digit or a dot
pub no_number : (m : ℕ) (xs ys : List ℕ) → NoDigit 10 xs → NoDigit 16 ys → get_or ys 0 0 ≢ 46 → number_text m ++ xs ≡ ys → ⊥
no_number m xs ys stop other dot e = none-some _ (sym (read_ipv4_none [] ys tt other dot) ∙ ap read_ipv4 (sym e) ∙ read_back m xs stop)
