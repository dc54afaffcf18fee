-- Slices that stand one after the other come apart in one way.
use Rattle.std.proofs.Common.{◌≡◌, ℕ, suc, ◌+◌, ◌≤◌, List, [], ◌∷◌, ◌++◌, length, take, drop, refl, sym, ap, subst, ◌∙◌, arith}
use Rattle.std.specs.List.{AllByRecursion}
use Rattle.std.proofs.lemmas.List.{take_at, drop_at, take-append-drop, length-append, length-take, get_or-take, get_or_append_left}
use Rattle.ospf_base.specs.Bytes.{number_at}
use Rattle.ospf_packet.specs.Slices.{lsa_length, IsSlice, lsas_bytes, AreSlices, slices_in, IsFirstSlice}

-- two bytes are read alike, whatever follows, and in the front alone
number_front : (at : ℕ) (a x : List ℕ) → at + 2 ≤ length a → number_at at 2 (a ++ x) ≡ number_at at 2 a
number_front at a x long = let p = get_or_append_left a x 0 at (omega arith) in let q = get_or_append_left a x 0 (suc at) (omega arith) in rw (p, q) refl

number_take : (at n : ℕ) (a : List ℕ) → at + 2 ≤ n → number_at at 2 (take n a) ≡ number_at at 2 a
number_take at n a long = let p = get_or-take n a at 0 (omega arith) in let q = get_or-take n a (suc at) 0 (omega arith) in rw (p, q) refl

-- the length of a slice is read, whatever follows it
length_back : (lsa rest : List ℕ) → IsSlice lsa → lsa_length (lsa ++ rest) ≡ length lsa
length_back lsa rest is = number_front 18 lsa rest (omega (arith, is.long)) ∙ is.length_is

slice_back : (lsa rest : List ℕ) → IsSlice lsa → take (lsa_length (lsa ++ rest)) (lsa ++ rest) ≡ lsa
slice_back lsa rest is = take_at lsa rest (lsa_length (lsa ++ rest)) (sym (length_back lsa rest is))

rest_back : (lsa rest : List ℕ) → IsSlice lsa → drop (lsa_length (lsa ++ rest)) (lsa ++ rest) ≡ rest
rest_back lsa rest is = drop_at lsa rest (lsa_length (lsa ++ rest)) (sym (length_back lsa rest is))

from_slice : (lsa rest : List ℕ) → IsSlice lsa → IsFirstSlice (lsa ++ rest)
from_slice lsa rest is =
    let n = length_back lsa rest is in
    let l = is.long in
    record {
      header = omega (arith, length-append lsa rest);
      long = omega arith;
      whole = omega (arith, length-append lsa rest);
    }

cons_same : {A : Type 0} (a b : A) (xs ys : List A) → a ≡ b → xs ≡ ys → a ∷ xs ≡ b ∷ ys
cons_same a b xs ys p q = cc

-- slices that stand one after the other are read
pub slices_back : (lsas : List (List ℕ)) → AllByRecursion IsSlice lsas → slices_in (length lsas) (lsas_bytes lsas) ≡ lsas
slices_back [] each = refl
slices_back (lsa ∷ lsas) each =
    let rest = lsas_bytes lsas in
    cons_same _ _ _ _ (slice_back lsa rest each.0) (ap (slices_in (length lsas)) (rest_back lsa rest each.0) ∙ slices_back lsas each.1)

-- ---- one slice more

slice_of : (bytes : List ℕ) → IsFirstSlice bytes → IsSlice (take (lsa_length bytes) bytes)
slice_of bytes is =
    let l = is.long in
    let w = is.whole in
    let n = length-take (lsa_length bytes) bytes in
    record { long = omega arith; length_is = number_take 18 (lsa_length bytes) bytes (omega arith) ∙ omega arith }

pub AreSlices-cons : (n : ℕ) (bytes : List ℕ) → IsFirstSlice bytes → AreSlices n (drop (lsa_length bytes) bytes) → AreSlices (suc n) bytes
AreSlices-cons n bytes is are = record {
  slices = take (lsa_length bytes) bytes ∷ are.slices;
  counted = ap suc are.counted;
  each = (slice_of bytes is, are.each);
  spelled = sym (take-append-drop (lsa_length bytes) bytes) ∙ ap (λ (t : List ℕ). take (lsa_length bytes) bytes ++ t) are.spelled;
}

first_of_some : (n : ℕ) (bytes : List ℕ) (lsas : List (List ℕ)) → length lsas ≡ suc n → AllByRecursion IsSlice lsas → bytes ≡ lsas_bytes lsas
    → IsFirstSlice bytes × AreSlices n (drop (lsa_length bytes) bytes)
first_of_some n bytes [] len each spelled = absurd (omega arith)
first_of_some n bytes (lsa ∷ lsas) len each spelled =
    let rest = lsas_bytes lsas in
    subst (λ (b : List ℕ). IsFirstSlice b × AreSlices n (drop (lsa_length b) b)) (sym spelled)
    (from_slice lsa rest each.0, record { slices = lsas; counted = omega arith; each = each.1; spelled = rest_back lsa rest each.0 })

-- the first slice of some, and the others
pub AreSlices-first : (n : ℕ) (bytes : List ℕ) → AreSlices (suc n) bytes → IsFirstSlice bytes × AreSlices n (drop (lsa_length bytes) bytes)
AreSlices-first n bytes are = first_of_some n bytes are.slices are.counted are.each are.spelled

-- no slice is no byte
pub AreSlices-none : (bytes : List ℕ) → length bytes ≡ 0 → AreSlices 0 bytes
AreSlices-none [] e = record { slices = []; counted = refl; each = tt; spelled = refl }
AreSlices-none (b ∷ bytes) e = absurd (omega arith)

none_left : (bytes : List ℕ) (lsas : List (List ℕ)) → length lsas ≡ 0 → bytes ≡ lsas_bytes lsas → length bytes ≡ 0
none_left bytes [] len spelled = ap length spelled
none_left bytes (lsa ∷ lsas) len spelled = absurd (omega arith)

pub no_bytes : (bytes : List ℕ) → AreSlices 0 bytes → length bytes ≡ 0
no_bytes bytes are = none_left bytes are.slices are.counted are.spelled
