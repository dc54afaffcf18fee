-- Keys that rise, each once.
use Rattle.std.proofs.Common.{◌≡◌, ◌&&◌, ◌||◌, ◌⊎◌, inl, inr, Bool, true, false, List, [], ◌∷◌, Option, None, Some, is_some, option_map, map, filter, refl, ap, sym, ◌∙◌, subst, if◌then◌else◌}
use Rattle.std.specs.List.{AllByRecursion}
use Rattle.ospf_base.specs.Rising.{IsRisingBy}
use Rattle.ospf_base.specs.Keys.{Precedes, same_key}
use Rattle.ospf_base.specs.declared.ids.LsaKey.{LsaKey}
use Rattle.ospf_base.proofs.KeyOrder.{Precedes-cases, Precedes-trans}
use Rattle.ospf_base.proofs.SameKeys.{same_key-apart_after, same_key-eq, same_key-refl}
use Rattle.ospf_lsdb.specs.Database.{Held, entry_of, held_of, key_at}
use Rattle.ospf_lsdb.proofs.Words.{AreKeysRising}
use Rattle.ospf_lsdb.specs.Moments.{among}
use Rattle.ospf_packet.specs.declared.entry.RequestEntry.{RequestEntry}
use Rattle.ospf_exchange.specs.Requests.{Answers, all_held, is_asked}
use Rattle.ospf_exchange.proofs.Words.{copy_in_database, is_held, is_key, key_asked}
use Rattle.ospf_adjacency.proofs.Words.{asked_keys}

pub bool_cases : (b : Bool) → (b ≡ true) ⊎ (b ≡ false)
bool_cases true = inl refl
bool_cases false = inr refl

-- ---- the keys of a database

all_keys : (k : LsaKey) (hs : List Held) → AllByRecursion (λ h. Precedes k (key_at h)) hs → AllByRecursion (λ o. Precedes k o) (map key_at hs)
all_keys k [] all = tt
all_keys k (h ∷ hs) all = (all.0, all_keys k hs all.1)

pub keys_rise : (db : List Held) → AreKeysRising db → IsRisingBy Precedes (map key_at db)
keys_rise [] rises = tt
keys_rise (h ∷ hs) rises = (all_keys (key_at h) hs rises.0, keys_rise hs rises.1)

some_held : (o : Option Held) → is_some o ≡ is_some (option_map (λ h. h.entry) o)
some_held None = refl
some_held (Some h) = refl

among_held : (db : List Held) (q : LsaKey) → among (map key_at db) q ≡ is_some (held_of db q)
among_held [] q = refl
among_held (h ∷ hs) q = elim (bool_cases (same_key (key_at h) q)) [
  | inl one ↦ rw one refl
  | inr two ↦ rw two (among_held hs q)
]

pub among_keys : (db : List Held) (q : LsaKey) → among (map key_at db) q ≡ is_some (entry_of db q)
among_keys db q = among_held db q ∙ some_held (held_of db q)

-- ---- those that pass a test

all_passed : (k : LsaKey) (p : LsaKey → Bool) (ks : List LsaKey) → AllByRecursion (λ o. Precedes k o) ks → AllByRecursion (λ o. Precedes k o) (filter p ks)
all_passed k p [] all = tt
all_passed k p (x ∷ xs) all = elim (bool_cases (p x)) [
  | inl one ↦ rw one (all.0, all_passed k p xs all.1)
  | inr two ↦ rw two (all_passed k p xs all.1)
]

pub filter_rises : (p : LsaKey → Bool) (ks : List LsaKey) → IsRisingBy Precedes ks → IsRisingBy Precedes (filter p ks)
filter_rises p [] rises = tt
filter_rises p (x ∷ xs) rises = elim (bool_cases (p x)) [
  | inl one ↦ rw one (all_passed x p xs rises.0, filter_rises p xs rises.1)
  | inr two ↦ rw two (filter_rises p xs rises.1)
]

and_true : (a : Bool) → a ≡ a && true
and_true true = refl
and_true false = refl

passed_here : (p : LsaKey → Bool) (x q : LsaKey) (here rest : Bool) → p x ≡ here → ((same_key x q ≡ true) → p q ≡ here) → (if here then same_key x q || (rest && p q) else rest && p q) ≡ (same_key x q || rest) && p q
passed_here p x q true rest is at = elim (bool_cases (same_key x q)) [
  | inl one ↦ let e = at one in rw (one, e) refl
  | inr two ↦ rw two refl
]
passed_here p x q false rest is at = elim (bool_cases (same_key x q)) [
  | inl one ↦ let e = at one in rw (one, e) (none rest)
  | inr two ↦ rw two refl
]
  where
    none : (a : Bool) → a && false ≡ false
    none true = refl
    none false = refl

pub among_filter : (p : LsaKey → Bool) (ks : List LsaKey) (q : LsaKey) → among (filter p ks) q ≡ among ks q && p q
among_filter p [] q = refl
among_filter p (x ∷ xs) q =
    let at : (here : Bool) → p x ≡ here → same_key x q ≡ true → p q ≡ here = λ here is one. ap p (sym (same_key-eq x q one)) ∙ is in
    elim (bool_cases (p x)) [
      | inl passes ↦ rw passes (ap (λ (b : Bool). same_key x q || b) (among_filter p xs q) ∙ passed_here p x q true (among xs q) passes (at true passes))
      | inr fails ↦ rw fails (among_filter p xs q ∙ passed_here p x q false (among xs q) fails (at false fails))
    ]

-- ---- keys that rise are told by what is among them

all_after : (k y : LsaKey) (ys : List LsaKey) → Precedes k y → AllByRecursion (λ o. Precedes y o) ys → AllByRecursion (λ o. Precedes k o) ys
all_after k y [] first all = tt
all_after k y (x ∷ xs) first all = (Precedes-trans k y x first all.0, all_after k y xs first all.1)

none_among : (k : LsaKey) (ks : List LsaKey) → AllByRecursion (λ o. Precedes k o) ks → among ks k ≡ false
none_among k [] all = refl
none_among k (x ∷ xs) all = let apart = same_key-apart_after x k all.0 in rw apart (none_among k xs all.1)

first_among : (k : LsaKey) (ks : List LsaKey) → among (k ∷ ks) k ≡ true
first_among k ks = let is = same_key-refl k in rw is refl

pub rising_same : (xs ys : List LsaKey) → IsRisingBy Precedes xs → IsRisingBy Precedes ys → ((q : LsaKey) → among xs q ≡ among ys q) → xs ≡ ys
rising_same [] [] rx ry same = refl
rising_same [] (y ∷ ys) rx ry same = absurd (let e = same y in let f = first_among y ys in cc)
rising_same (x ∷ xs) [] rx ry same = absurd (let e = same x in let f = first_among x xs in cc)
rising_same (x ∷ xs) (y ∷ ys) rx ry same = elim (Precedes-cases x y) [
  | inl key ↦ ap (λ (k : LsaKey). k ∷ xs) key ∙ ap (λ (t : List LsaKey). y ∷ t) (rising_same xs ys rx.1 ry.1 (rest key))
  | inr far ↦ elim far [
    | inl less ↦ absurd (let e = same x in let f = first_among x xs in let g = none_among x (y ∷ ys) (less, all_after x y ys less ry.0) in cc)
    | inr more ↦ absurd (let e = same y in let f = first_among y ys in let g = none_among y (x ∷ xs) (more, all_after y x xs more rx.0) in cc)
  ]
]
  where
    rest : x ≡ y → (q : LsaKey) → among xs q ≡ among ys q
    rest key q = elim (bool_cases (same_key x q)) [
      | inl one ↦
          let e = same_key-eq x q one in
          let p : among xs q ≡ false = subst (λ (k : LsaKey). among xs k ≡ false) e (none_among x xs rx.0) in
          let r : among ys q ≡ false = subst (λ (k : LsaKey). among ys k ≡ false) (sym key ∙ e) (none_among y ys ry.0) in
          p ∙ sym r
      | inr two ↦
          let two_y : same_key y q ≡ false = subst (λ (k : LsaKey). same_key k q ≡ false) key two in
          let left : among (x ∷ xs) q ≡ among xs q = rw two refl in
          let right : among (y ∷ ys) q ≡ among ys q = rw two_y refl in
          sym left ∙ same q ∙ right
    ]

-- ---- Requests

both : (a b : Bool) → a && b ≡ true → (a ≡ true) × (b ≡ true)
both true b is = (refl, is)
both false b is = absurd (cc)

one_held : (db : List Held) (o : Option LsaKey) (q : LsaKey) → is_some (copy_in_database db o) ≡ true → is_key o q ≡ true → is_some (entry_of db q) ≡ true
one_held db None q held is = absurd (cc)
one_held db (Some k) q held is = subst (λ (x : LsaKey). is_some (entry_of db x) ≡ true) (same_key-eq k q is) held

-- where the database has all that is asked for, it has each of it
asked_held : (db : List Held) (es : List RequestEntry) (q : LsaKey) → all_held db es ≡ true → is_asked es q ≡ true → is_some (entry_of db q) ≡ true
asked_held db [] q held asked = absurd (cc)
asked_held db (e ∷ es) q held asked =
    let parts = both (is_held db e) (all_held db es) held in
    elim (bool_cases (is_key (key_asked e) q)) [
      | inl here ↦ one_held db (key_asked e) q parts.0 here
      | inr there ↦
          let more : is_asked es q ≡ true = ap (λ (b : Bool). b || is_asked es q) (sym there) ∙ asked in
          asked_held db es q parts.1 more
    ]

absorbed : (a b : Bool) → (b ≡ true → a ≡ true) → a && b ≡ b
absorbed true b is = refl
absorbed false true is = is refl
absorbed false false is = refl

-- the keys that a Request asks for, as keys of the database
pub answers_are : (db : List Held) (es : List RequestEntry) (ks : List LsaKey) → AreKeysRising db → Answers es ks → all_held db es ≡ true → ks ≡ asked_keys db es
answers_are db es ks rises answers held =
    rising_same ks (asked_keys db es) answers.rising (filter_rises (is_asked es) (map key_at db) (keys_rise db rises))
    (λ q. answers.whole q ∙ sym (among_filter (is_asked es) (map key_at db) q ∙ ap (λ (b : Bool). b && is_asked es q) (among_keys db q)
    ∙ absorbed (is_some (entry_of db q)) (is_asked es q) (asked_held db es q held)))
