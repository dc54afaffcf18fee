-- A listing with each LSA that a database lists, and with as many, is what the database lists.
use Rattle.std.proofs.Common.{◌≡◌, ◌≢◌, ◌≤◌, ◌⊎◌, inl, inr, ℕ, zero, suc, Bool, true, false, List, [], ◌∷◌, filter, map, length, refl, sym, ap, subst, ◌∙◌, arith, Option, None, Some, option_map}
use Rattle.std.specs.List.{AllByRecursion, Contains}
use Rattle.ospf_base.proofs.KeyOrder.{Precedes-irrefl, Precedes-trans}
use Rattle.ospf_base.proofs.SameKeys.{same_key-eq, same_key-refl}
use Rattle.ospf_base.specs.Keys.{Precedes, same_key}
use Rattle.ospf_base.specs.Sums.{contents}
use Rattle.ospf_base.specs.declared.ids.LsaKey.{LsaKey}
use Rattle.ospf_router.proofs.AreaStep.StateFacts.{Contains-filter, Contains-map, Contains-map_cases, find-some}
use Rattle.ospf_lsa.specs.Listing.{IsListing, IsPut}
use Rattle.ospf_lsa.specs.Lsa.{key_of}
use Rattle.ospf_lsdb.specs.Database.{Entry, Held, IsDatabase, entries, entry_of, held_of, is_fresh, key_at, key_in, listed, lsa_of}
use Rattle.ospf_lsa.proofs.Words.{IsRising}
use Rattle.ospf_lsdb.proofs.Words.{AreKeysRising}
use Rattle.ospf_lsdb.proofs.Places.{AllAfter}
use Rattle.ospf_lsdb.proofs.EntryLemmas.{key_of-contents}
use Rattle.ospf_lsdb.proofs.MapLemmas.{after-none, bool_cases}
use Rattle.ospf_router.proofs.ListLemmas.{fresh_of, listed_fresh}
use Rattle.ospf_router.proofs.SameListings.{same_listing}
use Rattle.ospf_router.specs.Listings.{AreListedAt, ListsAs, ListsEntry, StayListed}

-- ---- the entries below MaxAge alone

abbrev fresh_held : List Held → List Held
fresh_held db = filter (λ h. is_fresh h.entry) db

-- each of the second is of the first, with the same contents
abbrev AreAmong : List Held → List Held → Type 0
AreAmong a b = (key : LsaKey) (h : Held) → held_of b key ≡ Some h → (g : Held) × (held_of a key ≡ Some g) × (g.entry.contents ≡ h.entry.contents)

abbrev contents_of : List Held → List (List ℕ)
contents_of db = map (λ h. h.entry.contents) db

some_same : (g h : Held) → Some g ≡ Some h → g ≡ h
some_same g h is = cc

first_held : (h : Held) (hs : List Held) → held_of (h ∷ hs) (key_at h) ≡ Some h
first_held h hs = let is = same_key-refl (key_at h) in rw is refl

rest_held : (h : Held) (hs : List Held) (key : LsaKey) → same_key (key_at h) key ≡ false → held_of (h ∷ hs) key ≡ held_of hs key
rest_held h hs key other = rw other refl

-- what is held behind the first is of another key
held_behind : (h : Held) (hs : List Held) (key : LsaKey) (g : Held) → AllAfter (key_at h) hs → held_of hs key ≡ Some g → same_key (key_at h) key ≡ false
held_behind h hs key g after is = elim (bool_cases (same_key (key_at h) key)) [
  | inl one ↦ absurd (let e = after-none (key_at h) hs after in let f : held_of hs (key_at h) ≡ Some g = subst (λ (k : LsaKey). held_of hs k ≡ Some g) (sym (same_key-eq (key_at h) key one)) is in cc)
  | inr two ↦ two
]

-- what is held in a rising list stands nowhere before the first
held_after : (key : LsaKey) (h : Held) (hs : List Held) (g : Held) → AreKeysRising (h ∷ hs) → held_of (h ∷ hs) key ≡ Some g → (key ≡ key_at h) ⊎ Precedes (key_at h) key
held_after key h hs g rises is = elim (bool_cases (same_key (key_at h) key)) [
  | inl one ↦ inl (sym (same_key-eq (key_at h) key one))
  | inr two ↦ inr (behind hs rises.0 (sym (rest_held h hs key two) ∙ is))
]
  where
    behind : (xs : List Held) → AllAfter (key_at h) xs → held_of xs key ≡ Some g → Precedes (key_at h) key
    behind [] after is = absurd (cc)
    behind (x ∷ xs) after is = by (same_key (key_at x) key) refl (behind xs after.1)
      where
        by : (b : Bool) → same_key (key_at x) key ≡ b → (held_of xs key ≡ Some g → Precedes (key_at h) key) → Precedes (key_at h) key
        by true e later = subst (λ (k : LsaKey). Precedes (key_at h) k) (same_key-eq (key_at x) key e) after.0
        by false e later = later (sym (rest_held x xs key e) ∙ is)

-- so they are no more than those, and the same where they are as many
record IsFront (a b : List Held) : Type 0 where
  fewer : length b ≤ length a
  same : length b ≡ length a → contents_of b ≡ contents_of a

is_front : (a b : List Held) → AreKeysRising a → AreKeysRising b → AreAmong a b → IsFront a b
is_front a [] ra rb among = record { fewer = omega arith; same = λ n. none a n }
  where
    none : (xs : List Held) → 0 ≡ length xs → contents_of [] ≡ contents_of xs
    none [] n = refl
    none (x ∷ xs) n = absurd (omega (arith, n))
is_front [] (h ∷ hs) ra rb among = absurd (let e = (among (key_at h) h (first_held h hs)).1 in cc)
is_front (g ∷ gs) (h ∷ hs) ra rb among = by (same_key (key_at g) (key_at h)) refl (is_front gs hs ra.1 rb.1) (is_front gs (h ∷ hs) ra.1 rb)
  where
    -- the same key first
    both : key_at g ≡ key_at h → AreAmong gs hs
    both same key x is =
        let other : same_key (key_at h) key ≡ false = held_behind h hs key x rb.0 is in
        let there = among key x (rest_held h hs key other ∙ is) in
        let not_g : same_key (key_at g) key ≡ false = subst (λ (k : LsaKey). same_key k key ≡ false) (sym same) other in
        (there.0, sym (rest_held g gs key not_g) ∙ there.1, there.2)

    head : key_at g ≡ key_at h → h.entry.contents ≡ g.entry.contents
    head same =
        let there = among (key_at h) h (first_held h hs) in
        let here : held_of (g ∷ gs) (key_at h) ≡ Some g = subst (λ (k : LsaKey). held_of (g ∷ gs) k ≡ Some g) same (first_held g gs) in
        let is : there.0 ≡ g = some_same there.0 g (sym there.1 ∙ here) in
        sym there.2 ∙ ap (λ (x : Held). x.entry.contents) is

    -- another: the first of the one is not among the others
    later : same_key (key_at g) (key_at h) ≡ false → AreAmong gs (h ∷ hs)
    later other key x is =
        let there = among key x is in
        let first = among (key_at h) h (first_held h hs) in
        let behind : Precedes (key_at g) (key_at h) = after_g (key_at h) first.0 first.1 other in
        let not_g : same_key (key_at g) key ≡ false = apart key x is behind in
        (there.0, sym (rest_held g gs key not_g) ∙ there.1, there.2)
      where
        after_g : (k : LsaKey) (y : Held) → held_of (g ∷ gs) k ≡ Some y → same_key (key_at g) k ≡ false → Precedes (key_at g) k
        after_g k y at none = elim (held_after k g gs y ra at) [
          | inl e ↦ absurd (let yes : same_key (key_at g) k ≡ true = subst (λ (q : LsaKey). same_key (key_at g) q ≡ true) (sym e) (same_key-refl (key_at g)) in cc)
          | inr lt ↦ lt
        ]

        apart : (k : LsaKey) (y : Held) → held_of (h ∷ hs) k ≡ Some y → Precedes (key_at g) (key_at h) → same_key (key_at g) k ≡ false
        apart k y at lt = elim (bool_cases (same_key (key_at g) k)) [
          | inl one ↦
              let e = same_key-eq (key_at g) k one in
              absurd (elim (held_after k h hs y rb at) [
                | inl f ↦ Precedes-irrefl (key_at g) (subst (λ (q : LsaKey). Precedes (key_at g) q) (sym (e ∙ f)) lt)
                | inr less ↦ Precedes-irrefl (key_at g) (Precedes-trans (key_at g) (key_at h) (key_at g) lt (subst (λ (q : LsaKey). Precedes (key_at h) q) (sym e) less))
              ])
          | inr two ↦ two
        ]

    by : (b : Bool) → same_key (key_at g) (key_at h) ≡ b → (AreAmong gs hs → IsFront gs hs) → (AreAmong gs (h ∷ hs) → IsFront gs (h ∷ hs)) → IsFront (g ∷ gs) (h ∷ hs)
    by true e tails rest =
        let k = same_key-eq (key_at g) (key_at h) e in
        let front = tails (both k) in
        record {
          fewer = omega (arith, front.fewer);
          same = λ n. let c = head k in let t = front.same (omega (arith, n)) in cc;
        }
    by false e tails rest =
        let front = rest (later e) in
        record { fewer = omega (arith, front.fewer); same = λ n. absurd (omega (arith, n, front.fewer)) }

-- ---- of whole databases

fresh_after : (k : LsaKey) (db : List Held) → AllAfter k db → AllAfter k (fresh_held db)
fresh_after k [] after = tt
fresh_after k (h ∷ hs) after = by (is_fresh h.entry) refl (fresh_after k hs after.1)
  where
    by : (b : Bool) → is_fresh h.entry ≡ b → AllAfter k (fresh_held hs) → AllAfter k (fresh_held (h ∷ hs))
    by true e rest = rw e (after.0, rest)
    by false e rest = rw e rest

fresh_rising : (db : List Held) → AreKeysRising db → AreKeysRising (fresh_held db)
fresh_rising [] rises = tt
fresh_rising (h ∷ hs) rises = by (is_fresh h.entry) refl (fresh_rising hs rises.1)
  where
    by : (b : Bool) → is_fresh h.entry ≡ b → AreKeysRising (fresh_held hs) → AreKeysRising (fresh_held (h ∷ hs))
    by true e rest = rw e (fresh_after (key_at h) hs rises.0, rest)
    by false e rest = rw e rest

-- what is held among the fresh ones is held, and fresh
fresh_is : (db : List Held) (key : LsaKey) (h : Held) → AreKeysRising db → held_of (fresh_held db) key ≡ Some h → (held_of db key ≡ Some h) × (is_fresh h.entry ≡ true)
fresh_is [] key h rises is = absurd (cc)
fresh_is (x ∷ xs) key h rises is = by (is_fresh x.entry) refl (same_key (key_at x) key) refl (fresh_is xs key h rises.1)
  where
    by : (b : Bool) → is_fresh x.entry ≡ b → (c : Bool) → same_key (key_at x) key ≡ c → (held_of (fresh_held xs) key ≡ Some h → (held_of xs key ≡ Some h) × (is_fresh h.entry ≡ true)) → (held_of (x ∷ xs) key ≡ Some h) × (is_fresh h.entry ≡ true)
    by true e true k later =
        let at : Some x ≡ Some h = simp (e, k) at is in
        let same : x ≡ h = some_same x h at in
        subst (λ (y : Held). (held_of (x ∷ xs) key ≡ Some y) × (is_fresh y.entry ≡ true)) same (rw k refl, e)
    by true e false k later = let rest : held_of (fresh_held xs) key ≡ Some h = simp (e, k) at is in let l = later rest in (rest_held x xs key k ∙ l.0, l.1)
    by false e true k later =
        let rest : held_of (fresh_held xs) key ≡ Some h = simp e at is in
        absurd (let l = (later rest).0 in let none = after-none (key_at x) xs rises.0 in let there : held_of xs (key_at x) ≡ Some h = subst (λ (q : LsaKey). held_of xs q ≡ Some h) (sym (same_key-eq (key_at x) key k)) l in cc)
    by false e false k later = let rest : held_of (fresh_held xs) key ≡ Some h = simp e at is in let l = later rest in (rest_held x xs key k ∙ l.0, l.1)

is_held : (db : List Held) (key : LsaKey) (h : Held) → held_of db key ≡ Some h → is_fresh h.entry ≡ true → held_of (fresh_held db) key ≡ Some h
is_held [] key h is fresh = absurd (cc)
is_held (x ∷ xs) key h is fresh = by (same_key (key_at x) key) refl (is_fresh x.entry) refl (is_held xs key h)
  where
    by : (c : Bool) → same_key (key_at x) key ≡ c → (b : Bool) → is_fresh x.entry ≡ b → (held_of xs key ≡ Some h → is_fresh h.entry ≡ true → held_of (fresh_held xs) key ≡ Some h) → held_of (fresh_held (x ∷ xs)) key ≡ Some h
    by true k true e later = let at : Some x ≡ Some h = simp k at is in rw (e, k) at
    by true k false e later =
        let at : Some x ≡ Some h = simp k at is in
        absurd (let same : x ≡ h = some_same x h at in let f : is_fresh x.entry ≡ true = subst (λ (y : Held). is_fresh y.entry ≡ true) (sym same) fresh in cc)
    by false k true e later = rw e (rest_held x (fresh_held xs) key k ∙ later (sym (rest_held x xs key k) ∙ is) fresh)
    by false k false e later = rw e (later (sym (rest_held x xs key k) ∙ is) fresh)

contents_fresh : (db : List Held) → contents_of (fresh_held db) ≡ fresh_of (entries db)
contents_fresh [] = refl
contents_fresh (h ∷ hs) = by (is_fresh h.entry) refl (contents_fresh hs)
  where
    by : (b : Bool) → is_fresh h.entry ≡ b → contents_of (fresh_held hs) ≡ fresh_of (entries hs) → contents_of (fresh_held (h ∷ hs)) ≡ fresh_of (entries (h ∷ hs))
    by true e rest = rw e (ap (λ xs. h.entry.contents ∷ xs) rest)
    by false e rest = rw e rest

-- ---- a listing as entries

held_as : List ℕ → Held
held_as lsa = record { entry = record { age = 0; contents = contents lsa; tick = 0; by_flooding = false }; reached = false }

helds_of : List (List ℕ) → List Held
helds_of lsas = map held_as lsas

key_as : (lsa : List ℕ) → key_at (held_as lsa) ≡ key_of lsa
unfolding held_as
key_as lsa = sym (key_of-contents lsa)

contents_as : (lsas : List (List ℕ)) → contents_of (helds_of lsas) ≡ map contents lsas
unfolding helds_of held_as
contents_as [] = refl
contents_as (l ∷ ls) = ap (λ xs. contents l ∷ xs) (contents_as ls)

many_as : (lsas : List (List ℕ)) → length (helds_of lsas) ≡ length lsas
unfolding helds_of
many_as [] = refl
many_as (l ∷ ls) = ap suc (many_as ls)

after_as : (k : LsaKey) (lsas : List (List ℕ)) → AllByRecursion (λ o. Precedes k (key_of o)) lsas → AllAfter k (helds_of lsas)
unfolding helds_of
after_as k [] after = tt
after_as k (l ∷ ls) after = (subst (λ (q : LsaKey). Precedes k q) (sym (key_as l)) after.0, after_as k ls after.1)

rising_as : (lsas : List (List ℕ)) → IsRising lsas → AreKeysRising (helds_of lsas)
unfolding helds_of
rising_as [] rises = tt
rising_as (l ∷ ls) rises = (subst (λ (q : LsaKey). AllAfter q (helds_of ls)) (sym (key_as l)) (after_as (key_of l) ls rises.0), rising_as ls rises.1)

-- an LSA of a later place bears a later key
later_key : (k : LsaKey) (lsas : List (List ℕ)) (lsa : List ℕ) → AllByRecursion (λ o. Precedes k (key_of o)) lsas → Contains lsas lsa → Precedes k (key_of lsa)
later_key k [] lsa all (n, within, is) = absurd (omega arith)
later_key k (l ∷ ls) lsa all (zero, within, is) = subst (λ (x : List ℕ). Precedes k (key_of x)) is all.0
later_key k (l ∷ ls) lsa all (suc n, within, is) = later_key k ls lsa all.1 (n, omega arith, is)

-- what is held at the key of an LSA that is listed
held_there : (lsas : List (List ℕ)) (lsa : List ℕ) → IsRising lsas → Contains lsas lsa → (g : Held) × (held_of (helds_of lsas) (key_of lsa) ≡ Some g) × (g.entry.contents ≡ contents lsa)
unfolding helds_of held_as
held_there [] lsa rises (n, within, is) = absurd (omega arith)
held_there (l ∷ ls) lsa rises (zero, within, is) =
    (held_as l, subst (λ (k : LsaKey). held_of (helds_of (l ∷ ls)) k ≡ Some (held_as l)) (key_as l ∙ ap key_of is) (first_held (held_as l) (helds_of ls)), contents_same is)
  where
    contents_same : l ≡ lsa → (held_as l).entry.contents ≡ contents lsa
    contents_same same = ap contents same
held_there (l ∷ ls) lsa rises (suc n, within, is) =
    let rest = held_there ls lsa rises.1 (n, omega arith, is) in
    let behind : Precedes (key_of l) (key_of lsa) = later_key (key_of l) ls lsa rises.0 (n, omega arith, is) in
    (rest.0, rest_held (held_as l) (helds_of ls) (key_of lsa) (apart behind) ∙ rest.1, rest.2)
  where
    apart : Precedes (key_of l) (key_of lsa) → same_key (key_at (held_as l)) (key_of lsa) ≡ false
    apart behind = elim (bool_cases (same_key (key_at (held_as l)) (key_of lsa))) [
      | inl one ↦ absurd (Precedes-irrefl (key_of l) (subst (λ (q : LsaKey). Precedes (key_of l) q) (sym (sym (key_as l) ∙ same_key-eq (key_at (held_as l)) (key_of lsa) one)) behind))
      | inr two ↦ two
    ]

-- ---- what the database has at a key

key_held : (db : List Held) (key : LsaKey) (h : Held) → held_of db key ≡ Some h → key_at h ≡ key
key_held db key h at = same_key-eq (key_at h) key (find-some (λ x. same_key (key_at x) key) db h at).1

entry_held : (db : List Held) (key : LsaKey) (e : Entry) → entry_of db key ≡ Some e → (h : Held) × (held_of db key ≡ Some h) × (h.entry ≡ e)
entry_held db key e is = by (held_of db key) refl is
  where
    by : (o : Option Held) → held_of db key ≡ o → option_map (λ h. h.entry) o ≡ Some e → (h : Held) × (held_of db key ≡ Some h) × (h.entry ≡ e)
    by None at is = absurd (cc)
    by (Some h) at is = (h, at, some_entry h.entry e is)
      where
        some_entry : (x y : Entry) → Some x ≡ Some y → x ≡ y
        some_entry x y same = cc

pub key_entry : (db : List Held) (key : LsaKey) (e : Entry) → entry_of db key ≡ Some e → key_in e.contents ≡ key
key_entry db key e at = let h = entry_held db key e at in ap (λ (x : Entry). key_in x.contents) (sym h.2) ∙ key_held db key h.0 h.1

-- ---- all of it

module _ (db : List Held) (lsas : List (List ℕ)) (is : IsDatabase db) (listing_is : IsListing lsas) (all : (key : LsaKey) → AreListedAt db key lsas) where
  all_among : AreAmong (helds_of lsas) (fresh_held db)
  all_among key h at =
      let there = fresh_is db key h is.rising at in
      let lsa = all key h.entry (ap (λ (o : Option Held). option_map (λ x. x.entry) o) there.0) there.1 in
      let found = held_there lsas lsa.0 listing_is.rising lsa.1 in
      let same : key_of lsa.0 ≡ key = key_of-contents lsa.0 ∙ ap key_in lsa.2 ∙ key_held db key h there.0 in
      (found.0, subst (λ (k : LsaKey). held_of (helds_of lsas) k ≡ Some found.0) same found.1, found.2 ∙ lsa.2)

  pub fresh_all : length (fresh_held db) ≡ length lsas → fresh_of (entries db) ≡ map contents lsas
  fresh_all many =
      let front = is_front (helds_of lsas) (fresh_held db) (rising_as lsas listing_is.rising) (fresh_rising db is.rising) all_among in
      sym (contents_fresh db) ∙ front.same (many ∙ sym (many_as lsas)) ∙ contents_as lsas

  pub lists_all : length (fresh_held db) ≡ length lsas → ListsAs db lsas
  lists_all many = listed_fresh db ∙ fresh_all many

  pub listing_all : length (fresh_held db) ≡ length lsas → IsListing (listed db)
  listing_all many = same_listing db lsas (fresh_all many) listing_is

-- ---- what a database lists has each of its entries below MaxAge

pub lists_each : (db : List Held) (lsas : List (List ℕ)) (key : LsaKey) → ListsAs db lsas → AreListedAt db key lsas
lists_each db lsas key lists e at fresh =
    let h = entry_held db key e at in
    let within : Contains (entries db) e = subst (λ (x : Entry). Contains (entries db) x) h.2 (Contains-map (λ x. x.entry) db h.0 (find-some (λ x. same_key (key_at x) key) db h.0 h.1).0) in
    let among : Contains (fresh_of (entries db)) e.contents = Contains-map (λ x. x.contents) (filter is_fresh (entries db)) e (Contains-filter is_fresh (entries db) e within fresh) in
    let told : Contains (map contents lsas) e.contents = subst (λ (cs : List (List ℕ)). Contains cs e.contents) (sym (listed_fresh db) ∙ lists) among in
    Contains-map_cases contents lsas e.contents told

-- ---- an entry that is put

module _ (db : List Held) (key : LsaKey) (entry : Entry) (at : entry_of db key ≡ Some entry) (old new : List (List ℕ)) (put : IsPut (lsa_of entry) old new) where
  some_entry : (e : Entry) → Some entry ≡ Some e → entry ≡ e
  some_entry e same = cc

  pub put_listed : AreListedAt db key new
  put_listed e is fresh = (lsa_of entry, (put (lsa_of entry)).1 (inl refl), ap (λ (x : Entry). x.contents) (some_entry e (sym at ∙ is)))

  pub put_stay : StayListed db old new
  put_stay k was e is fresh = by (same_key k key) refl
    where
      by : (b : Bool) → same_key k key ≡ b → ListsEntry new e
      by true one = put_listed e (subst (λ (q : LsaKey). entry_of db q ≡ Some e) (same_key-eq k key one) is) fresh
      by false two =
          let there = was e is fresh in
          let key_there : key_of there.0 ≡ k = key_of-contents there.0 ∙ ap key_in there.2 ∙ key_entry db k e is in
          let key_put : key_of (lsa_of entry) ≡ key = key_of-contents (lsa_of entry) ∙ key_entry db key entry at in
          let other : key_of there.0 ≢ key_of (lsa_of entry) = λ same.
          let one : same_key k key ≡ true = subst (λ (q : LsaKey). same_key k q ≡ true) (sym key_there ∙ same ∙ key_put) (same_key-refl k) in cc in
          (there.0, (put there.0).1 (inr (there.1, other)), there.2)
