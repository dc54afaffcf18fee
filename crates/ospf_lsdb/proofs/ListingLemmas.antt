-- The LSAs that are listed, from the stored entries without their keys.
use Rattle.std.proofs.Common.{◌≡◌, ◌≤◌, inl, inr, false, ℕ, List, [], ◌∷◌, ◌++◌, map, filter, refl, ap, sym, ◌∙◌, subst}
use Rattle.std.proofs.lemmas.List.{map-append}
use Rattle.std.proofs.lemmas.List.Elements.{filter-append}
use Rattle.std.specs.List.{AllByRecursion}
use Rattle.std.specs.Map.{values_of}
use Rattle.ospf_base.specs.Keys.{Precedes}
use Rattle.ospf_base.specs.declared.ids.LsaKey.{LsaKey}
use Rattle.ospf_lsa.specs.Lsa.{key_of}
use Rattle.ospf_lsdb.specs.Database.{Held, key_at, key_in, lsa_of, is_fresh, listed, listed_of}
use Rattle.ospf_lsdb.proofs.Words.{AreKeysRising}
use Rattle.ospf_lsdb.proofs.Places.{AllAfter}
use Rattle.ospf_lsdb.specs.declared.moments.AgeDue.{AgeDue}
use Rattle.ospf_lsdb.specs.declared.dated.Stored.{Stored}
use Rattle.ospf_lsdb.specs.Timers.{age_at, held_at, IsStored}
use Rattle.ospf_lsdb.proofs.MapLemmas.{bool_cases}
use Rattle.ospf_lsdb.proofs.RisingLemmas.{rising_before}
use Rattle.ospf_lsdb.proofs.ReachedLemmas.{listed_before}

-- a stored entry as it is at a moment, without what its key tells
abbrev pub bare : ℕ → Stored → Held
bare clock s = record { entry = record { age = age_at clock s.timer; contents = s.lsa; tick = s.tick; by_flooding = s.by_flooding }; reached = false }

bare_listed : (clock : ℕ) (due : List AgeDue) (es : List (LsaKey × Stored)) → listed (map (held_at clock due) es) ≡ listed (map (bare clock) (values_of es))
bare_listed clock due [] = refl
bare_listed clock due (e ∷ es) = elim (bool_cases (is_fresh (bare clock e.1).entry)) [
  | inl one ↦ rw one (ap (λ (t : List (List ℕ)). lsa_of (bare clock e.1).entry ∷ t) (bare_listed clock due es))
  | inr two ↦ rw two (bare_listed clock due es)
]

bare_after : (clock : ℕ) (due : List AgeDue) (k : LsaKey) (es : List (LsaKey × Stored)) → AllAfter k (map (held_at clock due) es) → AllAfter k (map (bare clock) (values_of es))
bare_after clock due k [] after = tt
bare_after clock due k (e ∷ es) after = (after.0, bare_after clock due k es after.1)

bare_rising : (clock : ℕ) (due : List AgeDue) (es : List (LsaKey × Stored)) → AreKeysRising (map (held_at clock due) es) → AreKeysRising (map (bare clock) (values_of es))
bare_rising clock due [] rises = tt
bare_rising clock due (e ∷ es) rises = (bare_after clock due (key_in e.1.lsa) es rises.0, bare_rising clock due es rises.1)

-- no stored entry is older than MaxAge
pub age_among : (clock : ℕ) (es : List (LsaKey × Stored)) → AllByRecursion (IsStored clock) es → (done : List Stored) (s : Stored) (rest : List Stored) → values_of es ≡ done ++ s ∷ rest → age_at clock s.timer ≤ 3600
age_among clock [] all [] s rest is = absurd (cc)
age_among clock [] all (d ∷ ds) s rest is = absurd (cc)
age_among clock (e ∷ es) all [] s rest is = let same : e.1 ≡ s = cc in subst (λ (x : Stored). age_at clock x.timer ≤ 3600) same all.0.1
age_among clock (e ∷ es) all (d ∷ ds) s rest is = let left : values_of es ≡ ds ++ s ∷ rest = cc in age_among clock es all.1 ds s rest left

-- an LSA stands behind those listed before it
pub bare_last : (clock : ℕ) (due : List AgeDue) (es : List (LsaKey × Stored)) → AreKeysRising (map (held_at clock due) es) → (done : List Stored) (s : Stored) (rest : List Stored) → values_of es ≡ done ++ s ∷ rest
    → AllByRecursion (λ lsa. Precedes (key_of lsa) (key_at (bare clock s))) (listed (map (bare clock) done))
bare_last clock due es rises done s rest is =
    listed_before (key_at (bare clock s)) (map (bare clock) done)
    (rising_before (map (bare clock) done) (bare clock s) (map (bare clock) rest)
    (subst (λ (hs : List Held). AreKeysRising hs) (ap (λ (ss : List Stored). map (bare clock) ss) is ∙ map-append (bare clock) done (s ∷ rest)) (bare_rising clock due es rises)))

listed_one : (h : Held) → listed (h ∷ []) ≡ listed_of h.entry
unfolding listed_of
listed_one h = elim (bool_cases (is_fresh h.entry)) [ inl one ↦ rw one refl | inr two ↦ rw two refl ]

-- one stored entry more
pub bare_more : (clock : ℕ) (done : List Stored) (s : Stored) → listed (map (bare clock) (done ++ s ∷ [])) ≡ listed (map (bare clock) done) ++ listed_of (bare clock s).entry
bare_more clock done s =
    ap listed (map-append (bare clock) done (s ∷ []))
    ∙ ap (λ (hs : List Held). map (λ h. lsa_of h.entry) hs) (filter-append (λ (h : Held). is_fresh h.entry) (map (bare clock) done) (bare clock s ∷ []))
    ∙ map-append (λ (h : Held). lsa_of h.entry) (filter (λ (h : Held). is_fresh h.entry) (map (bare clock) done)) (filter (λ (h : Held). is_fresh h.entry) (bare clock s ∷ []))
    ∙ ap (λ (t : List (List ℕ)). listed (map (bare clock) done) ++ t) (listed_one (bare clock s))

-- all of them
pub bare_all : (clock : ℕ) (due : List AgeDue) (es : List (LsaKey × Stored)) (done : List Stored) → values_of es ≡ done → listed (map (bare clock) done) ≡ listed (map (held_at clock due) es)
bare_all clock due es done is = ap (λ (ss : List Stored). listed (map (bare clock) ss)) (sym is) ∙ sym (bare_listed clock due es)
