-- Databases as maps.
use Rattle.std.proofs.Common.{◌≡◌, ◌⊎◌, inl, inr, Bool, true, false, List, [], ◌∷◌, ◌++◌, refl, ap, sym, ◌∙◌, subst, map, Option, None, Some, option_map, if◌then◌else◌}
use Rattle.ospf_base.specs.declared.ids.LsaKey.{LsaKey}
use Rattle.ospf_base.specs.Keys.{same_key}
use Rattle.ospf_base.proofs.SameKeys.{same_key-refl, same_key-eq, same_key-apart, same_key-apart_after}
use Rattle.ospf_lsdb.specs.Database.{Held, key_at, held_of, Puts}
use Rattle.ospf_lsdb.proofs.Places.{AllBefore, AllAfter}

pub after-none : (key : LsaKey) (xs : List Held) → AllAfter key xs → held_of xs key ≡ None
after-none key [] above = refl
after-none key (x ∷ xs) above = let no = same_key-apart_after (key_at x) key above.0 in rw no (after-none key xs above.1)

pub held_of-none : (key : LsaKey) (xs ys : List Held) → AllBefore key xs → AllAfter key ys → held_of (xs ++ ys) key ≡ None
held_of-none key [] ys below above = after-none key ys above
held_of-none key (x ∷ xs) ys below above = let no = same_key-apart (key_at x) key below.0 in rw no (held_of-none key xs ys below.1 above)

-- the entry of a key behind those that stand before it
pub held_of-here : (key : LsaKey) (xs : List Held) (h : Held) (ys : List Held) → key_at h ≡ key → AllBefore key xs → held_of (xs ++ h ∷ ys) key ≡ Some h
held_of-here key [] h ys is below = let yes : same_key (key_at h) key ≡ true = rw is (same_key-refl key) in rw yes refl
held_of-here key (x ∷ xs) h ys is below = let no = same_key-apart (key_at x) key below.0 in rw no (held_of-here key xs h ys is below.1)

-- it hides nothing of another key
pub held_of-other : (key k : LsaKey) (xs : List Held) (h : Held) (ys : List Held) → key_at h ≡ key → same_key key k ≡ false → held_of (xs ++ h ∷ ys) k ≡ held_of (xs ++ ys) k
held_of-other key k [] h ys is apart = let no : same_key (key_at h) k ≡ false = rw is apart in rw no refl
held_of-other key k (x ∷ xs) h ys is apart = ap (λ (o : Option Held). if same_key (key_at x) k then Some x else o) (held_of-other key k xs h ys is apart)

pub bool_cases : (b : Bool) → (b ≡ true) ⊎ (b ≡ false)
bool_cases true = inl refl
bool_cases false = inr refl

-- an entry put in
pub Puts-insert : (key : LsaKey) (xs : List Held) (h : Held) (ys : List Held) → key_at h ≡ key → AllBefore key xs → Puts key (Some h) (xs ++ ys) (xs ++ h ∷ ys)
Puts-insert key xs h ys is below k = elim (bool_cases (same_key key k)) [
  | inl one ↦ rw one (subst (λ (q : LsaKey). held_of (xs ++ h ∷ ys) q ≡ Some h) (same_key-eq key k one) (held_of-here key xs h ys is below))
  | inr two ↦ rw two (held_of-other key k xs h ys is two)
]

-- an entry in place of another
pub Puts-set : (key : LsaKey) (xs : List Held) (o h : Held) (ys : List Held) → key_at o ≡ key → key_at h ≡ key → AllBefore key xs → Puts key (Some h) (xs ++ o ∷ ys) (xs ++ h ∷ ys)
Puts-set key xs o h ys was is below k = elim (bool_cases (same_key key k)) [
  | inl one ↦ rw one (subst (λ (q : LsaKey). held_of (xs ++ h ∷ ys) q ≡ Some h) (same_key-eq key k one) (held_of-here key xs h ys is below))
  | inr two ↦ rw two (held_of-other key k xs h ys is two ∙ sym (held_of-other key k xs o ys was two))
]

-- an entry taken out
pub Puts-remove : (key : LsaKey) (xs : List Held) (o : Held) (ys : List Held) → key_at o ≡ key → AllBefore key xs → AllAfter key ys → Puts key None (xs ++ o ∷ ys) (xs ++ ys)
Puts-remove key xs o ys was below above k = elim (bool_cases (same_key key k)) [
  | inl one ↦ rw one (subst (λ (q : LsaKey). held_of (xs ++ ys) q ≡ None) (same_key-eq key k one) (held_of-none key xs ys below above))
  | inr two ↦ rw two (sym (held_of-other key k xs o ys was two))
]

-- what has a key already keeps it
pub Puts-same : (key : LsaKey) (held : Option Held) (db : List Held) → held_of db key ≡ held → Puts key held db db
Puts-same key held db is k = elim (bool_cases (same_key key k)) [
  | inl one ↦ rw one (subst (λ (q : LsaKey). held_of db q ≡ held) (same_key-eq key k one) is)
  | inr two ↦ rw two refl
]

-- a change of each entry that keeps keys is one of the map
pub held_of-map : (f : Held → Held) → ((h : Held) → key_at (f h) ≡ key_at h) → (db : List Held) (k : LsaKey) → held_of (map f db) k ≡ option_map f (held_of db k)
held_of-map f keeps [] k = refl
held_of-map f keeps (h ∷ hs) k = elim (bool_cases (same_key (key_at h) k)) [
  | inl one ↦ let new : same_key (key_at (f h)) k ≡ true = ap (λ (q : LsaKey). same_key q k) (keeps h) ∙ one in rw (new, one) refl
  | inr two ↦ let new : same_key (key_at (f h)) k ≡ false = ap (λ (q : LsaKey). same_key q k) (keeps h) ∙ two in rw (new, two) (held_of-map f keeps hs k)
]

-- the same put in other words
pub Puts-words : (key : LsaKey) (o o' : Option Held) (db db' new : List Held) → o ≡ o' → db ≡ db' → Puts key o db new → Puts key o' db' new
Puts-words key o o' db db' new same_o same puts = subst (λ (x : Option Held). Puts key x db' new) same_o (subst (λ (d : List Held). Puts key o d new) same puts)
