-- Entries in the order of their keys.
use Rattle.std.proofs.Common.{◌≡◌, ◌<◌, ◌≤◌, ◌⊎◌, inl, inr, ℕ, ◌+◌, List, [], ◌∷◌, ◌++◌, length, take, drop, get_or, ap, sym, ◌∙◌, subst, arith, map}
use Rattle.std.proofs.lemmas.List.{drop_more, take-append-drop}
use Rattle.std.proofs.lemmas.List.Elements.{All-from_recursion}
use Rattle.std.specs.List.{AllByRecursion}
use Rattle.ospf_base.specs.declared.ids.LsaKey.{LsaKey}
use Rattle.ospf_base.specs.Keys.{Precedes}
use Rattle.ospf_base.proofs.KeyOrder.{Precedes-trans}
use Rattle.ospf_lsdb.specs.Database.{Held, key_at, IsDatabase, older}
use Rattle.ospf_lsdb.proofs.Words.{AreKeysRising}
use Rattle.ospf_lsdb.proofs.Places.{AllBefore, AllAfter}
use Rattle.ospf_lsdb.proofs.EntryLemmas.{older-young, older-old}
use Rattle.ospf_lsa.proofs.ListingLemmas.{all_back, all_front, all_join}

-- what a key precedes, each key before it precedes
pub all_after-trans : (k m : LsaKey) (xs : List Held) → Precedes k m → AllAfter m xs → AllAfter k xs
all_after-trans k m [] lt p = tt
all_after-trans k m (x ∷ xs) lt p = (Precedes-trans k m (key_at x) lt p.0, all_after-trans k m xs lt p.1)

-- entries in front of it
pub rising_before : (xs : List Held) (h : Held) (ys : List Held) → AreKeysRising (xs ++ h ∷ ys) → AllBefore (key_at h) xs
rising_before [] h ys rises = tt
rising_before (x ∷ xs) h ys rises = ((all_back (λ o. Precedes (key_at x) (key_at o)) xs (h ∷ ys) rises.0).0, rising_before xs h ys rises.1)

-- a rising list with an entry put in where its key belongs
pub IsRising-insert : (xs : List Held) (h : Held) (ys : List Held) → AreKeysRising (xs ++ ys) → AllBefore (key_at h) xs → AllAfter (key_at h) ys → AreKeysRising (xs ++ h ∷ ys)
IsRising-insert [] h ys rises below above = (above, rises)
IsRising-insert (x ∷ xs) h ys rises below above = (
  all_join (λ o. Precedes (key_at x) (key_at o)) xs (h ∷ ys) (all_front (λ o. Precedes (key_at x) (key_at o)) xs ys rises.0) (below.0, all_back (λ o. Precedes (key_at x) (key_at o)) xs ys rises.0),
  IsRising-insert xs h ys rises.1 below.1 above,
)

-- and with one taken out
pub IsRising-remove : (xs : List Held) (h : Held) (ys : List Held) → AreKeysRising (xs ++ h ∷ ys) → AreKeysRising (xs ++ ys)
IsRising-remove [] h ys rises = rises.1
IsRising-remove (x ∷ xs) h ys rises = (
  all_join (λ o. Precedes (key_at x) (key_at o)) xs ys (all_front (λ o. Precedes (key_at x) (key_at o)) xs (h ∷ ys) rises.0) (all_back (λ o. Precedes (key_at x) (key_at o)) xs (h ∷ ys) rises.0).1,
  IsRising-remove xs h ys rises.1,
)

abbrev pub AgesFit : List Held → Type 0
AgesFit db = AllByRecursion (λ h. h.entry.age ≤ 3600) db

pub IsDatabase-insert : (xs : List Held) (h : Held) (ys : List Held) → IsDatabase (xs ++ ys) → h.entry.age ≤ 3600 → AllBefore (key_at h) xs → AllAfter (key_at h) ys → IsDatabase (xs ++ h ∷ ys)
IsDatabase-insert xs h ys is young below above = record {
  rising = IsRising-insert xs h ys is.rising below above;
  ages = all_join (λ o. o.entry.age ≤ 3600) xs (h ∷ ys) (all_front (λ o. o.entry.age ≤ 3600) xs ys is.ages) (young, all_back (λ o. o.entry.age ≤ 3600) xs ys is.ages);
}

pub IsDatabase-remove : (xs : List Held) (h : Held) (ys : List Held) → IsDatabase (xs ++ h ∷ ys) → IsDatabase (xs ++ ys)
IsDatabase-remove xs h ys is = record {
  rising = IsRising-remove xs h ys is.rising;
  ages = all_join (λ o. o.entry.age ≤ 3600) xs ys (all_front (λ o. o.entry.age ≤ 3600) xs (h ∷ ys) is.ages) (all_back (λ o. o.entry.age ≤ 3600) xs (h ∷ ys) is.ages).1;
}

-- a list about one of its places
pub split_at : (db : List Held) (at : ℕ) (d : Held) → at < length db → db ≡ take at db ++ get_or db at d ∷ drop (at + 1) db
split_at db at d within = sym (take-append-drop at db) ∙ ap (λ (t : List Held). take at db ++ t) (drop_more db at d within)

-- what growing older keeps
pub key_at-older : (h : Held) → key_at (older h) ≡ key_at h
key_at-older h = elim (order h.entry.age) [
  | inl young ↦ ap key_at (older-young h young)
  | inr old ↦ ap key_at (older-old h old)
]
  where
    order : (n : ℕ) → (n < 3600) ⊎ (3600 ≤ n)
    order n = grind arith

pub age-older : (h : Held) → h.entry.age ≤ 3600 → (older h).entry.age ≤ 3600
age-older h fits = elim (order h.entry.age) [
  | inl young ↦ let e = ap (λ (x : Held). x.entry.age) (older-young h young) in omega arith
  | inr old ↦ let e = ap (λ (x : Held). x.entry.age) (older-old h old) in omega arith
]
  where
    order : (n : ℕ) → (n < 3600) ⊎ (3600 ≤ n)
    order n = grind arith

all_after-older : (k : LsaKey) (xs : List Held) → AllAfter k xs → AllAfter k (map older xs)
all_after-older k [] p = tt
all_after-older k (x ∷ xs) p = (subst (λ (q : LsaKey). Precedes k q) (sym (key_at-older x)) p.0, all_after-older k xs p.1)

pub IsRising-older : (db : List Held) → AreKeysRising db → AreKeysRising (map older db)
IsRising-older [] rises = tt
IsRising-older (h ∷ hs) rises = (subst (λ (q : LsaKey). AllAfter q (map older hs)) (sym (key_at-older h)) (all_after-older (key_at h) hs rises.0), IsRising-older hs rises.1)

ages-older : (db : List Held) → AgesFit db → AgesFit (map older db)
ages-older [] fits = tt
ages-older (h ∷ hs) fits = (age-older h fits.0, ages-older hs fits.1)

pub IsDatabase-older : (db : List Held) → IsDatabase db → IsDatabase (map older db)
IsDatabase-older db is = record { rising = IsRising-older db is.rising; ages = ages-older db is.ages }

-- the age at a place
pub age_at : (db : List Held) → IsDatabase db → (at : ℕ) (d : Held) → at < length db → (get_or db at d).entry.age ≤ 3600
age_at db is at d within = All-from_recursion (λ h. h.entry.age ≤ 3600) db is.ages at d within
