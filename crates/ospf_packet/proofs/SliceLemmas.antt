-- A walk over slices.
use Rattle.std.proofs.Common.{◌≡◌, ℕ, zero, suc, ◌+◌, ◌-◌, ◌<◌, ◌≤◌, List, [], ◌++◌, length, get_or, take, drop, refl, sym, ap, ◌∙◌, arith}
use Rattle.std.specs.Prelude.{◌↔◌}
use Rattle.std.proofs.lemmas.List.{take-append-drop, length-append}
use Rattle.std.proofs.lemmas.List.Concat.{flat_map-append}
use Rattle.ospf_lsa.specs.Lsa.{IsLsa}
use Rattle.ospf_lsa.specs.declared.fault.LsaFault.TheVariants as fault
use Rattle.ospf_packet.specs.Slices.{lsa_length, IsSlice, lsas_bytes, AreSlices, IsFirstSlice, IsSplit}
use Rattle.ospf_packet.proofs.SliceLaws.{AreSlices-cons, AreSlices-first}
use Rattle.ospf_packet.proofs.EntryLemmas.{bytes_more}

-- the first slice of some, and the others, for a count that is not written as one more
pub AreSlices-step : (n : ℕ) (bytes : List ℕ) → 0 < n → AreSlices n bytes → IsFirstSlice bytes × AreSlices (n - 1) (drop (lsa_length bytes) bytes)
AreSlices-step zero bytes lt are = absurd (omega arith)
AreSlices-step (suc n) bytes lt are = let e : suc n - 1 ≡ n = omega arith in rw e (AreSlices-first n bytes are)

-- the slices that are left, at one more
pub goes_on : (count i : ℕ) (rest lsa after : List ℕ) (P : Type 0) → i < count → IsSplit rest lsa after
    → (AreSlices (count - i) rest ↔ P) → (AreSlices (count - (i + 1)) after ↔ P)
goes_on count i rest lsa after P lt first so_far =
    let n : count - i ≡ suc (count - (i + 1)) = omega arith in
    let before = rw n at so_far in
    let e = first.rest_is in
    rw e (
      (λ are. before.0 (AreSlices-cons (count - (i + 1)) rest first.is are)),
      (λ p. (AreSlices-first (count - (i + 1)) rest (before.1 p)).1),
    )

-- no slice where one is to stand
pub breaks_off : (count i : ℕ) (rest : List ℕ) (P : Type 0) → i < count → (IsFirstSlice rest → ⊥) → (AreSlices (count - i) rest ↔ P) → P → ⊥
breaks_off count i rest P lt none so_far p =
    let pos : 0 < count - i = omega arith in
    none (AreSlices-step (count - i) rest pos (so_far.1 p)).0

-- ---- LSAs that are written

-- the first ones are no longer than all
pub length_front : (lsas : List (List ℕ)) (n : ℕ) → length (lsas_bytes (take n lsas)) ≤ length (lsas_bytes lsas)
length_front lsas n =
    let split : lsas_bytes (take n lsas) ++ lsas_bytes (drop n lsas) ≡ lsas_bytes lsas =
    sym (flat_map-append (λ (l : List ℕ). l) (take n lsas) (drop n lsas)) ∙ ap lsas_bytes (take-append-drop n lsas) in
    omega (arith, ap length split, length-append (lsas_bytes (take n lsas)) (lsas_bytes (drop n lsas)))

-- one LSA more
pub length_more : (lsas : List (List ℕ)) (i : ℕ) (d : List ℕ) → i < length lsas
    → length (lsas_bytes (take (i + 1) lsas)) ≡ length (lsas_bytes (take i lsas)) + length (get_or lsas i d)
length_more lsas i d lt =
    let more = bytes_more (λ (l : List ℕ). l) lsas i d [] (lsas_bytes (take i lsas)) lt refl in
    sym (ap length more) ∙ length-append (lsas_bytes (take i lsas)) (get_or lsas i d)

-- a valid LSA is a slice
pub slice_of_lsa : (lsa : List ℕ) → IsLsa lsa → IsSlice lsa
slice_of_lsa lsa is = record { long = (is fault.Short).0; length_is = omega (arith, (is fault.Short).1, is fault.Length) }
