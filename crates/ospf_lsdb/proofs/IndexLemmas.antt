-- The keys of the entries at MaxAge, after each change of a database.
use Rattle.std.proofs.Common.{◌≡◌, ◌<◌, ◌≤◌, ◌⊎◌, inl, inr, ℕ, ◌+◌, ◌==◌, ◌&&◌, ◌||◌, nat_lt, Bool, true, false, List, [], ◌∷◌, ◌++◌, filter, map, length, refl, ap, sym, ◌∙◌, subst, arith, Option, None, Some, option_map, if◌then◌else◌}
use Rattle.std.proofs.lemmas.Bool.{lt-ltb}
use Rattle.std.proofs.lemmas.List.{length-map, nil_from_length}
use Rattle.ospf_base.specs.Rising.{IsRisingBy}
use Rattle.ospf_base.specs.declared.ids.LsaKey.{LsaKey}
use Rattle.ospf_base.specs.Keys.{Precedes, same_key}
use Rattle.ospf_base.proofs.KeyOrder.{Precedes-cases}
use Rattle.ospf_base.proofs.SameKeys.{same_key-eq, same_key-refl}
use Rattle.ospf_lsdb.specs.Database.{Ages, Entry, Held, Installs, IsDatabase, Puts, expired, held_of, is_expired, is_fresh, is_some_and, key_at, key_in, older, reached_at, removed}
use Rattle.ospf_lsdb.proofs.Words.{AreKeysRising}
use Rattle.ospf_lsdb.specs.Expired.{IsIndex, KeysValue, SetsKey}
use Rattle.ospf_lsdb.specs.Moments.{among}
use Rattle.ospf_lsdb.proofs.Places.{AllBefore, AllAfter}
use Rattle.ospf_lsdb.proofs.EntryLemmas.{is_expired-old, is_expired-young, older-young, older-old}
use Rattle.ospf_lsdb.proofs.KeyLists.{set_same}
use Rattle.ospf_lsdb.proofs.MapLaws.{one_database}
use Rattle.ospf_lsdb.proofs.MapLemmas.{bool_cases, held_of-map, held_of-none, Puts-insert, Puts-remove, Puts-same, Puts-set}
use Rattle.ospf_lsdb.proofs.ReachedKeys.{keys_where, reached-among, same_keys_lists, where-among, where-rise}
use Rattle.ospf_lsdb.proofs.RisingLemmas.{AgesFit, IsDatabase-insert, IsDatabase-older, IsDatabase-remove, all_after-trans, key_at-older}

-- ---- where the entry of a key stands, or belongs

data Place (key : LsaKey) (db : List Held) : Type 0 where
  Found : (xs : List Held) (h : Held) (ys : List Held) → db ≡ xs ++ h ∷ ys → key_at h ≡ key → AllBefore key xs → AllAfter key ys → Place key db
  Free : (xs ys : List Held) → db ≡ xs ++ ys → AllBefore key xs → AllAfter key ys → Place key db

place : (key : LsaKey) (db : List Held) → AreKeysRising db → Place key db
place key [] rises = Free [] [] refl tt tt
place key (x ∷ xs) rises = by (Precedes-cases (key_at x) key) (place key xs rises.1)
  where
    later : Precedes (key_at x) key → Place key xs → Place key (x ∷ xs)
    later lt (Found front h back is at below above) = Found (x ∷ front) h back (ap (λ t. x ∷ t) is) at (lt, below) above
    later lt (Free front back is below above) = Free (x ∷ front) back (ap (λ t. x ∷ t) is) (lt, below) above

    by : (key_at x ≡ key) ⊎ (Precedes (key_at x) key ⊎ Precedes key (key_at x)) → Place key xs → Place key (x ∷ xs)
    by (inl is) rest = Found [] x xs refl is tt (subst (λ (k : LsaKey). AllAfter k xs) is rises.0)
    by (inr (inl lt)) rest = later lt rest
    by (inr (inr gt)) rest = Free [] (x ∷ xs) refl tt (gt, all_after-trans key (key_at x) xs gt rises.0)

-- what is held at a key is of that key, and not older than MaxAge
held_fits : (db : List Held) (key : LsaKey) (h : Held) → AgesFit db → held_of db key ≡ Some h → (key_at h ≡ key) × (h.entry.age ≤ 3600)
held_fits [] key h fits is = absurd (cc)
held_fits (x ∷ xs) key h fits is = elim (bool_cases (same_key (key_at x) key)) [
  | inl one ↦
      let here : Some x ≡ Some h = simp one at is in
      let same : x ≡ h = cc in
      subst (λ (y : Held). (key_at y ≡ key) × (y.entry.age ≤ 3600)) same (same_key-eq (key_at x) key one, fits.0)
  | inr two ↦ let rest : held_of xs key ≡ Some h = simp two at is in held_fits xs key h fits.1 rest
]

-- ---- how many entries there are after a change of one

there : Option Held → ℕ
there None = 0
there (Some h) = 1

length_about : (xs : List Held) (h : Held) (ys : List Held) → length (xs ++ h ∷ ys) ≡ length (xs ++ ys) + 1
length_about [] h ys = omega arith
length_about (x ∷ xs) h ys = let rest = length_about xs h ys in omega (arith, rest)

-- two lists that came of the same change are one
same_put : (key : LsaKey) (o : Option Held) (a b c : List Held) → IsDatabase b → IsDatabase c → Puts key o a b → Puts key o a c → b ≡ c
same_put key o a b c is_b is_c p q = one_database b c is_b is_c (λ k. p k ∙ sym (q k))

found_length : (key : LsaKey) (xs : List Held) (h : Held) (ys b : List Held) (o : Option Held) → IsDatabase (xs ++ h ∷ ys) → IsDatabase b → key_at h ≡ key → AllBefore key xs → AllAfter key ys
    → ((g : Held) → o ≡ Some g → (key_at g ≡ key) × (g.entry.age ≤ 3600)) → Puts key o (xs ++ h ∷ ys) b → length b ≤ length (xs ++ h ∷ ys)
found_length key xs h ys b None is_a is_b at below above fits puts =
    let e : b ≡ xs ++ ys = same_put key None (xs ++ h ∷ ys) b (xs ++ ys) is_b (IsDatabase-remove xs h ys is_a) puts (Puts-remove key xs h ys at below above) in
    let n = ap length e in
    let m = length_about xs h ys in
    omega (arith, n, m)
found_length key xs h ys b (Some g) is_a is_b at below above fits puts =
    let f = fits g refl in
    let is_c : IsDatabase (xs ++ g ∷ ys) = IsDatabase-insert xs g ys (IsDatabase-remove xs h ys is_a) f.1 (subst (λ (k : LsaKey). AllBefore k xs) (sym f.0) below) (subst (λ (k : LsaKey). AllAfter k ys) (sym f.0) above) in
    let e : b ≡ xs ++ g ∷ ys = same_put key (Some g) (xs ++ h ∷ ys) b (xs ++ g ∷ ys) is_b is_c puts (Puts-set key xs h g ys at f.0 below) in
    let n = ap length e in
    let m = length_about xs h ys in
    let l = length_about xs g ys in
    omega (arith, n, m, l)

free_length : (key : LsaKey) (xs ys b : List Held) (o : Option Held) → IsDatabase (xs ++ ys) → IsDatabase b → AllBefore key xs → AllAfter key ys
    → ((g : Held) → o ≡ Some g → (key_at g ≡ key) × (g.entry.age ≤ 3600)) → Puts key o (xs ++ ys) b → length b ≤ length (xs ++ ys) + there o
unfolding there
free_length key xs ys b None is_a is_b below above fits puts =
    let e : b ≡ xs ++ ys = same_put key None (xs ++ ys) b (xs ++ ys) is_b is_a puts (Puts-same key None (xs ++ ys) (held_of-none key xs ys below above)) in
    let n = ap length e in
    omega (arith, n)
free_length key xs ys b (Some g) is_a is_b below above fits puts =
    let f = fits g refl in
    let is_c : IsDatabase (xs ++ g ∷ ys) = IsDatabase-insert xs g ys is_a f.1 (subst (λ (k : LsaKey). AllBefore k xs) (sym f.0) below) (subst (λ (k : LsaKey). AllAfter k ys) (sym f.0) above) in
    let e : b ≡ xs ++ g ∷ ys = same_put key (Some g) (xs ++ ys) b (xs ++ g ∷ ys) is_b is_c puts (Puts-insert key xs g ys f.0 below) in
    let n = ap length e in
    let l = length_about xs g ys in
    omega (arith, n, l)

put_here : (key : LsaKey) (o : Option Held) (a b : List Held) → Puts key o a b → held_of b key ≡ o
put_here key o a b puts = puts key ∙ (let yes = same_key-refl key in rw yes refl)

-- no more than before where there was none and is none, and at most one more
puts_length : (key : LsaKey) (o : Option Held) (a b : List Held) → IsDatabase a → IsDatabase b → Puts key o a b → (length b ≤ length a) ⊎ ((held_of a key ≡ None) × (length b ≤ length a + there o))
puts_length key o a b is_a is_b puts = by (place key a is_a.rising)
  where
    fits : (g : Held) → o ≡ Some g → (key_at g ≡ key) × (g.entry.age ≤ 3600)
    fits g is = held_fits b key g is_b.ages (put_here key o a b puts ∙ is)

    by : Place key a → (length b ≤ length a) ⊎ ((held_of a key ≡ None) × (length b ≤ length a + there o))
    by (Found xs h ys is at below above) =
        let few = found_length key xs h ys b o (subst (λ (l : List Held). IsDatabase l) is is_a) is_b at below above fits (subst (λ (l : List Held). Puts key o l b) is puts) in
        inl (subst (λ (l : List Held). length b ≤ length l) (sym is) few)
    by (Free xs ys is below above) =
        let few = free_length key xs ys b o (subst (λ (l : List Held). IsDatabase l) is is_a) is_b below above fits (subst (λ (l : List Held). Puts key o l b) is puts) in
        inr (ap (λ (l : List Held). held_of l key) is ∙ held_of-none key xs ys below above, subst (λ (l : List Held). length b ≤ length l + there o) (sym is) few)

there_most : (o : Option Held) → there o ≤ 1
unfolding there
there_most None = omega arith
there_most (Some h) = omega arith

-- an install
one_more : (key : LsaKey) (o : Option Held) (a b : List Held) → IsDatabase a → IsDatabase b → Puts key o a b → length b ≤ length a + 1
one_more key o a b is_a is_b puts = elim (puts_length key o a b is_a is_b puts) [
  | inl few ↦ omega arith
  | inr more ↦ let most = there_most o in omega (arith, more.1, most)
]

-- a change of what is there
pub no_more : (key : LsaKey) (f : Option Held → Option Held) → f None ≡ None → (a b : List Held) → IsDatabase a → IsDatabase b → Puts key (f (held_of a key)) a b → length b ≤ length a
unfolding there
no_more key f none a b is_a is_b puts = elim (puts_length key (f (held_of a key)) a b is_a is_b puts) [
  | inl few ↦ few
  | inr more ↦ let gone : there (f (held_of a key)) ≡ 0 = ap (λ (o : Option Held). there (f o)) more.0 ∙ ap there none in omega (arith, more.1, gone)
]

-- a tick
as_many : (a b : List Held) → IsDatabase a → IsDatabase b → Ages a b → b ≡ map older a
as_many a b is_a is_b ages = one_database b (map older a) is_b (IsDatabase-older a is_a) (λ k. ages k ∙ sym (held_of-map older key_at-older a k))

-- ---- the keys of those at MaxAge

abbrev expired_keys : List Held → List LsaKey
expired_keys db = keys_where is_expired db

-- they rise
index_rises : (db : List Held) (list : KeysValue) → IsDatabase db → IsIndex db list → IsRisingBy Precedes list.keys
index_rises db list is_db index = subst (λ (ks : List LsaKey). IsRisingBy Precedes ks) (sym index.keys) (where-rise is_expired db is_db.rising)

-- which are there
index_among : (db : List Held) (list : KeysValue) → IsDatabase db → IsIndex db list → (k : LsaKey) → among list.keys k ≡ is_some_and is_expired (held_of db k)
index_among db list is_db index k = ap (λ (ks : List LsaKey). among ks k) index.keys ∙ where-among is_expired db is_db.rising k

-- by those that are there
index_from : (db : List Held) (list : KeysValue) → IsDatabase db → IsRisingBy Precedes list.keys → ((k : LsaKey) → among list.keys k ≡ is_some_and is_expired (held_of db k)) → length db ≤ list.room → IsIndex db list
index_from db list is_db rises here room = record {
  keys = same_keys_lists list.keys (expired_keys db) rises (where-rise is_expired db is_db.rising) (λ k. here k ∙ sym (where-among is_expired db is_db.rising k));
  room = room;
}

-- the entry of a key changes, and so its place in the list
pub index_puts : (key : LsaKey) (o : Option Held) (is_in : Bool) (a b : List Held) (before after : KeysValue) → IsDatabase a → IsDatabase b → Puts key o a b → before.keys ≡ expired_keys a
    → is_in ≡ is_some_and is_expired o → IsRisingBy Precedes after.keys → SetsKey key is_in before.keys after.keys → length b ≤ after.room → IsIndex b after
index_puts key o is_in a b before after is_a is_b puts was same rises sets room = index_from b after is_b rises (λ k. sets k ∙ here k) room
  where
    here : (k : LsaKey) → (if same_key key k then is_in else among before.keys k) ≡ is_some_and is_expired (held_of b k)
    here k = elim (bool_cases (same_key key k)) [
      | inl one ↦
          let put : held_of b k ≡ o = simp one at (puts k) in
          rw one (same ∙ sym (ap (λ (x : Option Held). is_some_and is_expired x) put))
      | inr two ↦
          let kept : held_of b k ≡ held_of a k = simp two at (puts k) in
          let had : among before.keys k ≡ is_some_and is_expired (held_of a k) = ap (λ (ks : List LsaKey). among ks k) was ∙ where-among is_expired a is_a.rising k in
          rw two (had ∙ sym (ap (λ (x : Option Held). is_some_and is_expired x) kept))
    ]

-- an LSA is installed
pub index_installs : (key : LsaKey) (e : Entry) (is_in : Bool) (a b : List Held) (before after : KeysValue) → IsDatabase a → IsDatabase b → Installs e a b → key ≡ key_in e.contents → before.keys ≡ expired_keys a
    → is_in ≡ (e.age == 3600) → IsRisingBy Precedes after.keys → SetsKey key is_in before.keys after.keys → length a + 1 ≤ after.room → IsIndex b after
index_installs key e is_in a b before after is_a is_b puts same was is_old rises sets room =
    let now : Option Held = Some (record { entry = e; reached = false }) in
    let put : Puts key now a b = subst (λ (k : LsaKey). Puts k now a b) (sym same) puts in
    let most = one_more key now a b is_a is_b put in
    index_puts key now is_in a b before after is_a is_b put was is_old rises sets (omega (arith, most, room))

-- it changes, and is at MaxAge where it was
pub index_kept : (key : LsaKey) (o : Option Held) (a b : List Held) (list : KeysValue) → IsDatabase a → IsDatabase b → Puts key o a b → IsIndex a list
    → is_some_and is_expired (held_of a key) ≡ is_some_and is_expired o → length b ≤ list.room → IsIndex b list
index_kept key o a b list is_a is_b puts index same room =
    let rises = index_rises a list is_a index in
    index_puts key o (is_some_and is_expired o) a b list list is_a is_b puts index.keys refl rises (set_same key (is_some_and is_expired o) list.keys (index_among a list is_a index key ∙ same)) room

-- ---- an LSA brought to MaxAge

fresh_not : (n : ℕ) → nat_lt n 3600 ≡ true → (n == 3600) ≡ false
fresh_not n young = grind arith

-- then there is one
pub expired_there : (o : Option Held) → is_some_and (λ h. is_fresh h.entry) o ≡ true → true ≡ is_some_and is_expired (option_map expired o)
unfolding expired
expired_there None young = absurd (cc)
expired_there (Some h) young = rw young refl

-- where it was not below it, nothing changes
pub expired_same : (o : Option Held) → is_some_and (λ h. is_fresh h.entry) o ≡ false → is_some_and is_expired o ≡ is_some_and is_expired (option_map expired o)
unfolding expired
expired_same None old = refl
expired_same (Some h) old = rw old refl

-- the list has no more keys than there are entries
pub few : (db : List Held) → length (expired_keys db) ≤ length db
few [] = omega arith
few (h ∷ hs) = let rest = few hs in elim (bool_cases (is_expired h)) [ inl one ↦ rw one (omega (arith, rest)) | inr two ↦ rw two (omega (arith, rest)) ]

-- one below MaxAge is no key of the list, which so has room for it
pub fresh_room : (db : List Held) (key : LsaKey) → is_some_and (λ h. is_fresh h.entry) (held_of db key) ≡ true → length (expired_keys db) < length db
fresh_room [] key young = absurd (cc)
fresh_room (h ∷ hs) key young = elim (bool_cases (same_key (key_at h) key)) [
  | inl one ↦
      let here : is_fresh h.entry ≡ true = simp one at young in
      let no : is_expired h ≡ false = fresh_not h.entry.age here in
      let rest = few hs in
      rw no (omega (arith, rest))
  | inr two ↦
      let later : is_some_and (λ g. is_fresh g.entry) (held_of hs key) ≡ true = simp two at young in
      let rest = fresh_room hs key later in
      elim (bool_cases (is_expired h)) [ inl one ↦ rw one (omega (arith, rest)) | inr two ↦ rw two (omega (arith, rest)) ]
]

-- ---- an LSA taken out

pub removed_of_none : removed None ≡ None
unfolding removed
removed_of_none = refl

pub removed_none : (o : Option Held) → false ≡ is_some_and is_expired (removed o)
unfolding removed
removed_none None = refl
removed_none (Some h) = elim (bool_cases (is_expired h)) [ inl one ↦ rw one refl | inr two ↦ rw (two, two) refl ]

-- ---- a tick

age_order : (n : ℕ) → (n < 3600) ⊎ (3600 ≤ n)
age_order n = grind arith

-- what is at MaxAge then was so before, or has come to it
comes : (o : Option Held) → is_some_and (λ h. h.reached && (h.entry.age == 3600)) (option_map older o) || is_some_and is_expired o ≡ is_some_and is_expired (option_map older o)
comes None = refl
comes (Some h) = elim (age_order h.entry.age) [
  | inl young ↦ rw (older-young h young) (young_comes h.entry.age young)
  | inr old ↦ rw (older-old h old) refl
]
  where
    young_comes : (n : ℕ) → n < 3600 → (((n + 1 == 1800) || (n + 1 == 3600)) && (n + 1 == 3600)) || (n == 3600) ≡ (n + 1 == 3600)
    young_comes n young = grind arith

pub index_ages : (a b : List Held) (before after : KeysValue) → IsDatabase a → IsDatabase b → Ages a b → IsIndex a before
    → IsRisingBy Precedes after.keys → ((k : LsaKey) → among after.keys k ≡ (among (reached_at 3600 b) k || among before.keys k)) → before.room ≤ after.room → IsIndex b after
index_ages a b before after is_a is_b ages index rises here room = index_from b after is_b rises (λ k. here k ∙ there_now k) fits
  where
    there_now : (k : LsaKey) → (among (reached_at 3600 b) k || among before.keys k) ≡ is_some_and is_expired (held_of b k)
    there_now k =
        let new = reached-among 3600 b is_b.rising k in
        let had = index_among a before is_a index k in
        rw (new, had, ages k) (comes (held_of a k))

    fits : length b ≤ after.room
    fits =
        let same = ap length (as_many a b is_a is_b ages) in
        let count = length-map a older in
        omega (arith, same, count, index.room, room)

-- where none comes to MaxAge, the list stays as it is

pub index_stays : (a b : List Held) (list : KeysValue) → IsDatabase a → IsDatabase b → Ages a b → IsIndex a list → 0 ≡ length (reached_at 3600 b) → IsIndex b list
index_stays a b list is_a is_b ages index none =
    index_ages a b list list is_a is_b ages index (index_rises a list is_a index) (λ k. ap (λ (ks : List LsaKey). among ks k || among list.keys k) (sym (nil_from_length (reached_at 3600 b) (sym none)))) (omega arith)

-- and there is room for all of them
counted : (db : List Held) → length (expired_keys db) + length (reached_at 3600 (map older db)) ≤ length db
unfolding reached_at
counted [] = omega arith
counted (h ∷ hs) = elim (age_order h.entry.age) [
  | inl young ↦
      let rest = counted hs in
      let no : is_expired h ≡ false = is_expired-young h young in
      elim (bool_cases ((older h).reached && ((older h).entry.age == 3600))) [ inl one ↦ rw (no, one) (omega (arith, rest)) | inr two ↦ rw (no, two) (omega (arith, rest)) ]
  | inr old ↦
      let rest = counted hs in
      let no : (older h).reached && ((older h).entry.age == 3600) ≡ false = rw (older-old h old) refl in
      elim (bool_cases (is_expired h)) [ inl one ↦ rw (no, one) (omega (arith, rest)) | inr two ↦ rw (no, two) (omega (arith, rest)) ]
]

pub room_for_all : (a b : List Held) (list : KeysValue) → IsDatabase a → IsDatabase b → Ages a b → IsIndex a list → length list.keys + length (reached_at 3600 b) ≤ list.room
room_for_all a b list is_a is_b ages index =
    let same = ap (λ (l : List Held). length (reached_at 3600 l)) (as_many a b is_a is_b ages) in
    let keys = ap length index.keys in
    let all = counted a in
    omega (arith, same, keys, all, index.room)

-- ---- how many are below MaxAge

old_not : (n : ℕ) → (n == 3600) ≡ true → nat_lt n 3600 ≡ false
old_not n is = grind arith

-- all but those at MaxAge
pub others : (db : List Held) → AgesFit db → length (expired_keys db) + length (filter (λ h. is_fresh h.entry) db) ≡ length db
others [] fits = refl
others (h ∷ hs) fits = elim (age_order h.entry.age) [
  | inl young ↦
      let rest = others hs fits.1 in
      let below : is_fresh h.entry ≡ true = lt-ltb h.entry.age 3600 young in
      let no : is_expired h ≡ false = is_expired-young h young in
      rw (below, no) (omega (arith, rest))
  | inr old ↦
      let rest = others hs fits.1 in
      let at : is_expired h ≡ true = is_expired-old h old fits.0 in
      let no : is_fresh h.entry ≡ false = old_not h.entry.age at in
      rw (at, no) (omega (arith, rest))
]
