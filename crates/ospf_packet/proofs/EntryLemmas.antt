-- Entries of one size, one after the other: what is read is what was written.
use Rattle.std.proofs.Common.{◌≡◌, ℕ, zero, suc, ◌+◌, ◌*◌, ◌-◌, ◌<◌, ◌≤◌, List, [], ◌∷◌, ◌++◌, length, get_or, take, drop, refl, sym, ap, ◌∙◌, arith}
use Rattle.std.specs.List.{flat_map, AllByRecursion}
use Rattle.std.proofs.lemmas.List.{drop_at, take_more, flat_map_more, length-append, length-drop, take-append-drop, get_or-drop}
use Rattle.std.proofs.lemmas.List.Folds.{length-flat_map-take}
use Rattle.ospf_base.specs.Bytes.{AreBytes}
use Rattle.ospf_packet.specs.Entries.{packet_entries_in}
use Rattle.ospf_lsa.proofs.BuildLemmas.{all_push}

pub AreBytes-drop : (n : ℕ) (bytes : List ℕ) → AreBytes bytes → AreBytes (drop n bytes)
AreBytes-drop n bytes h i = rw get_or-drop (h (n + i))

-- the entry at the front, and those behind it
pub entries_step : {X : Type 0} (size : ℕ) (read : List ℕ → X) (n : ℕ) (bytes : List ℕ) → 0 < n
    → packet_entries_in size read n bytes ≡ read bytes ∷ packet_entries_in size read (n - 1) (drop size bytes)
entries_step size read zero bytes pos = absurd (omega arith)
entries_step size read (suc n) bytes pos = let e : suc n - 1 ≡ n = omega arith in rw e refl

cons_same : {A : Type 0} (a b : A) (xs ys : List A) → a ≡ b → xs ≡ ys → a ∷ xs ≡ b ∷ ys
cons_same a b xs ys p q = cc

-- entries that were written are read
pub entries_back : {X : Type 0} (size : ℕ) (read : List ℕ → X) (spell : X → List ℕ) (Fits : X → Type 0)
    → ((x : X) → length (spell x) ≡ size) → ((x : X) (rest : List ℕ) → Fits x → read (spell x ++ rest) ≡ x)
    → (xs : List X) → AllByRecursion Fits xs → packet_entries_in size read (length xs) (flat_map spell xs) ≡ xs
entries_back size read spell Fits sized back [] fits = refl
entries_back size read spell Fits sized back (x ∷ xs) fits =
    let rest = flat_map spell xs in
    let behind = drop_at (spell x) rest size (sized x) in
    cons_same _ _ _ _ (back x rest fits.0) (ap (packet_entries_in size read (length xs)) behind ∙ entries_back size read spell Fits sized back xs fits.1)

pub length_entries : {X : Type 0} (size : ℕ) (spell : X → List ℕ) → ((x : X) → length (spell x) ≡ size)
    → (xs : List X) → length (flat_map spell xs) ≡ length xs * size
length_entries size spell sized [] = omega arith
length_entries size spell sized (x ∷ xs) =
    let one : suc (length xs) * size ≡ size + length xs * size = omega arith in
    omega (arith, length_entries size spell sized xs, length-append (spell x) (flat_map spell xs), sized x, one)

-- ---- one entry more

pub fits_more : {X : Type 0} (P : X → Type 0) (xs : List X) (i : ℕ) (d : X) → i < length xs → AllByRecursion P (take i xs) → P (get_or xs i d)
    → AllByRecursion P (take (i + 1) xs)
fits_more P xs i d lt before here = rw (take_more xs i d lt) (all_push P (take i xs) (get_or xs i d) before here)

pub bytes_more : {X : Type 0} (spell : X → List ℕ) (xs : List X) (i : ℕ) (d : X) (start now : List ℕ) → i < length xs
    → now ≡ start ++ flat_map spell (take i xs) → now ++ spell (get_or xs i d) ≡ start ++ flat_map spell (take (i + 1) xs)
bytes_more {X = X} spell xs i d start now lt before =
    ap (λ (bs : List ℕ). bs ++ spell (get_or xs i d)) before
    ∙ flat_map_more spell start (take i xs) (get_or xs i d)
    ∙ ap (λ (ls : List X). start ++ flat_map spell ls) (sym (take_more xs i d lt))

-- where there was room for all, there is room for one more
pub room_more : {X : Type 0} (spell : X → List ℕ) (xs : List X) (i : ℕ) (d : X) (start now : List ℕ) → i < length xs
    → now ≡ start ++ flat_map spell (take i xs) → length now + length (spell (get_or xs i d)) ≤ length start + length (flat_map spell xs)
room_more spell xs i d start now lt before =
    omega (arith, ap length before, length-append start (flat_map spell (take i xs)), length-flat_map-take spell xs i d lt)

-- ---- what was read is written as it stood

no_bytes : (bytes : List ℕ) → length bytes ≡ 0 → [] ≡ bytes
no_bytes [] e = refl
no_bytes (b ∷ bytes) e = absurd (omega arith)

one_more : (n size : ℕ) → suc n * size ≡ size + n * size
one_more n size = omega arith

pub entries_again : {X : Type 0} (size : ℕ) (read : List ℕ → X) (spell : X → List ℕ)
    → ((bytes : List ℕ) → AreBytes bytes → size ≤ length bytes → spell (read bytes) ≡ take size bytes)
    → (n : ℕ) (bytes : List ℕ) → AreBytes bytes → length bytes ≡ n * size → flat_map spell (packet_entries_in size read n bytes) ≡ bytes
entries_again size read spell again zero bytes fits len = no_bytes bytes (omega arith)
entries_again size read spell again (suc n) bytes fits len =
    let more = one_more n size in
    let rest = entries_again size read spell again n (drop size bytes) (AreBytes-drop size bytes fits) (omega (arith, length-drop size bytes)) in
    ap (λ (t : List ℕ). t ++ flat_map spell (packet_entries_in size read n (drop size bytes))) (again bytes fits (omega arith))
    ∙ ap (λ (t : List ℕ). take size bytes ++ t) rest
    ∙ take-append-drop size bytes

pub fits_again : {X : Type 0} (size : ℕ) (read : List ℕ → X) (Fits : X → Type 0)
    → ((bytes : List ℕ) → AreBytes bytes → size ≤ length bytes → Fits (read bytes))
    → (n : ℕ) (bytes : List ℕ) → AreBytes bytes → length bytes ≡ n * size → AllByRecursion Fits (packet_entries_in size read n bytes)
fits_again size read Fits fit zero bytes fits len = tt
fits_again size read Fits fit (suc n) bytes fits len =
    let more = one_more n size in (
      fit bytes fits (omega arith),
      fits_again size read Fits fit n (drop size bytes) (AreBytes-drop size bytes fits) (omega (arith, length-drop size bytes)),
    )
