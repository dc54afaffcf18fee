-- Stored entries as a database.
use Rattle.std.proofs.Common.{◌≡◌, ◌<◌, ◌≤◌, ◌==◌, ◌&&◌, ◌||◌, cond, ◌⊎◌, inl, inr, ◌+◌, ◌-◌, ◌%◌, nat_lt, ℕ, Bool, true, false, List, [], ◌∷◌, map, Option, Some, None, option_map, refl, ap, sym, ◌∙◌, subst, arith, BTreeMap, if◌then◌else◌}
use Rattle.std.specs.List.{AllByRecursion}
use Rattle.std.specs.List.Sorted.{IsStrictlySortedBy}
use Rattle.std.specs.Map.{lookup, keys_of}
use Rattle.std.specs.Ordering.{is_eq}
use Rattle.std.specs.declared.cmp.Ordering.TheVariants.{Less}
use Rattle.std.specs.BTreeMap as tree
use Rattle.std.proofs.lemmas.Map.Views.{All-found}
use Rattle.std.proofs.lemmas.List.Elements.{recursion_from_All}
use Rattle.std.specs.Cmp.{IsTotalOrder}
use Rattle.ospf_base.specs.Rising.{IsRisingBy}
use Rattle.ospf_base.specs.contracts.ids.LsaKeyOrd.TheImpl.Laws.{total-law}
use Rattle.ospf_base.specs.Keys.{Precedes, same_key, key_cmp}
use Rattle.ospf_base.specs.declared.ids.LsaKey.{LsaKey}
use Rattle.ospf_lsdb.specs.Database.{key_at, held_of, is_told, IsDatabase, Puts}
use Rattle.ospf_lsdb.proofs.Words.{AreKeysRising}
use Rattle.ospf_lsdb.proofs.Places.{AllAfter}
use Rattle.ospf_lsdb.specs.declared.moments.AgeDue.{AgeDue}
use Rattle.ospf_lsdb.specs.declared.dated.Stored.{Stored}
use Rattle.ospf_lsdb.specs.Moments.{ahead, has_due, same_due, coming, is_coming}
use Rattle.std.proofs.lemmas.Bool.{eqb-true, lt-ltb, ltb-true}
use Rattle.ospf_lsdb.specs.Timers.{age_at, held_at, stored_of, age_of, ComesToAge, AreDue, IsStored, AreKeptEntries, timer_stopped}
use Rattle.ospf_lsdb.specs.declared.dated.Timer.TheVariants.{Expired}
use Rattle.ospf_lsdb.proofs.MapLemmas.{bool_cases}
use Rattle.ospf_base.proofs.SameKeys.{same_key-eq}
use Rattle.ospf_base.proofs.KeyMaps.{is_eq-key_cmp, key_cmp-less}
use Rattle.ospf_lsdb.proofs.MomentLemmas.{same_due-eq, same_due-refl, made_is, split_and}
use Rattle.ospf_lsdb.proofs.RingLemmas.{ahead-is, ahead-of, ahead-none}

key_total : IsTotalOrder key_cmp
key_total = total-law

stored_list : (key : LsaKey) (es : List (LsaKey × Stored)) → lookup (λ k. is_eq (key_cmp key k)) es ≡ stored_of es key
stored_list key [] = refl
stored_list key (e ∷ es) = ap (λ (b : Bool). cond b (Some e.1) (lookup (λ k. is_eq (key_cmp key k)) es)) (is_eq-key_cmp key e.0) ∙ ap (λ (o : Option Stored). cond (same_key key e.0) (Some e.1) o) (stored_list key es)

-- what the map has is what is stored
pub stored_of-get : (m : BTreeMap LsaKey Stored) (key : LsaKey) → tree.get key_cmp m key ≡ stored_of m.entries key
stored_of-get m key = stored_list key m.entries

same_key-turned : (a b : LsaKey) → same_key a b ≡ same_key b a
same_key-turned a b = elim (bool_cases (same_key a b)) [
  | inl one ↦ let e = same_key-eq a b one in subst (λ (k : LsaKey). same_key a k ≡ same_key k a) e refl
  | inr two ↦ elim (bool_cases (same_key b a)) [
    | inl back ↦ let e = same_key-eq b a back in subst (λ (k : LsaKey). same_key k b ≡ same_key b k) e refl
    | inr not_back ↦ two ∙ sym not_back
  ]
]

-- the database at a key
pub held_of-stored : (clock : ℕ) (due : List AgeDue) (es : List (LsaKey × Stored)) → AllByRecursion (IsStored clock) es → (k : LsaKey)
    → held_of (map (held_at clock due) es) k ≡ option_map (λ s. held_at clock due (k, s)) (stored_of es k)
held_of-stored clock due [] all k = refl
held_of-stored clock due (e ∷ es) all k =
    let key : same_key (key_at (held_at clock due e)) k ≡ same_key k e.0 = ap (λ (q : LsaKey). same_key q k) all.0.0 ∙ same_key-turned e.0 k in
    elim (bool_cases (same_key k e.0)) [
      | inl one ↦
          let at = key ∙ one in
          let is : e.0 ≡ k = sym (same_key-eq k e.0 one) in
          rw (at, one) (ap (λ (q : LsaKey). Some (held_at clock due (q, e.1))) is)
      | inr two ↦ let at = key ∙ two in rw (at, two) (held_of-stored clock due es all.1 k)
    ]

all_after_keys : (clock : ℕ) (due : List AgeDue) (k : LsaKey) (es : List (LsaKey × Stored)) → AllByRecursion (IsStored clock) es → AllByRecursion (λ o. Precedes k o) (keys_of es) → AllAfter k (map (held_at clock due) es)
all_after_keys clock due k [] all after = tt
all_after_keys clock due k (e ∷ es) all after = (subst (λ (q : LsaKey). Precedes k q) (sym all.0.0) after.0, all_after_keys clock due k es all.1 after.1)

pub rising_stored : (clock : ℕ) (due : List AgeDue) (es : List (LsaKey × Stored)) → AllByRecursion (IsStored clock) es → IsRisingBy Precedes (keys_of es) → AreKeysRising (map (held_at clock due) es)
rising_stored clock due [] all rise = tt
rising_stored clock due (e ∷ es) all rise = (subst (λ (q : LsaKey). AllAfter q (map (held_at clock due) es)) (sym all.0.0) (all_after_keys clock due e.0 es all.1 rise.0), rising_stored clock due es all.1 rise.1)

ages_stored : (clock : ℕ) (due : List AgeDue) (es : List (LsaKey × Stored)) → AllByRecursion (IsStored clock) es → AllByRecursion (λ h. h.entry.age ≤ 3600) (map (held_at clock due) es)
ages_stored clock due [] all = tt
ages_stored clock due (e ∷ es) all = (all.0.1, ages_stored clock due es all.1)

-- stored entries are a database
pub IsDatabase-stored : (clock : ℕ) (es : List (LsaKey × Stored)) (due : List AgeDue) → AreKeptEntries clock es due → IsDatabase (map (held_at clock due) es)
IsDatabase-stored clock es due kept = record { rising = rising_stored clock due es kept.stored kept.rising; ages = ages_stored clock due es kept.stored }

all_less : (k : LsaKey) (ks : List LsaKey) → AllByRecursion (λ y. key_cmp k y ≡ Less) ks → AllByRecursion (λ o. Precedes k o) ks
all_less k [] all = tt
all_less k (x ∷ xs) all = (key_cmp-less k x all.0, all_less k xs all.1)

-- the map's order is the keys'
pub rising_from-sorted : (ks : List LsaKey) → IsStrictlySortedBy key_cmp ks → IsRisingBy Precedes ks
unfolding IsStrictlySortedBy
rising_from-sorted [] sorted = tt
rising_from-sorted (k ∷ ks) sorted = (all_less k ks sorted.0, rising_from-sorted ks sorted.1)

-- what holds of each entry holds of the one of a key
pub stored_one : (clock : ℕ) (es : List (LsaKey × Stored)) → AllByRecursion (IsStored clock) es → (k : LsaKey) (s : Stored) → stored_of es k ≡ Some s → IsStored clock (k, s)
stored_one clock [] all k s is = absurd (cc)
stored_one clock (e ∷ es) all k s is = elim (bool_cases (same_key k e.0)) [
  | inl one ↦
      let here : Some e.1 ≡ Some s = simp one at is in
      let same : e.1 ≡ s = cc in
      let key : e.0 ≡ k = sym (same_key-eq k e.0 one) in
      subst (λ (x : Stored). IsStored clock (k, x)) same (subst (λ (q : LsaKey). IsStored clock (q, e.1)) key all.0)
  | inr two ↦ let rest : stored_of es k ≡ Some s = simp two at is in stored_one clock es all.1 k s rest
]

-- ---- what is due

pub bool_or : (a b : Bool) → a || b ≡ true → (a ≡ true) ⊎ (b ≡ true)
bool_or true b is = inl refl
bool_or false b is = inr is

due_made : (d : AgeDue) (m a : ℕ) → d.moment ≡ m → d.age ≡ a → d ≡ record { moment = m; age = a; key = d.key }
due_made d m a p q = made_is d m a d.key p q refl

pub told_cases : (n : ℕ) → is_told n ≡ true → (n ≡ 1800) ⊎ (n ≡ 3600)
told_cases n is = elim (bool_or (n == 1800) (n == 3600) is) [ inl one ↦ inl (eqb-true n 1800 one) | inr two ↦ inr (eqb-true n 3600 two) ]

and_both : (a b : Bool) → a ≡ true → b ≡ true → a && b ≡ true
and_both true b p q = q
and_both false b p q = p

or_left : (a b : Bool) → a ≡ true → a || b ≡ true
or_left true b p = refl
or_left false b p = absurd (cc)

or_right : (a b : Bool) → b ≡ true → a || b ≡ true
or_right true b p = refl
or_right false b p = p

-- what comes to pass at a told age
comes_at : (clock age told : ℕ) (d : AgeDue) → age < told → d.age ≡ told → d.moment ≡ (clock + (told - age)) % 65536 → nat_lt age told && same_due (coming clock age told d.key) d ≡ true
comes_at clock age told d young at when =
    let is : d ≡ coming clock age told d.key = due_made d ((clock + (told - age)) % 65536) told when at in
    and_both (nat_lt age told) (same_due (coming clock age told d.key) d) (lt-ltb age told young) (subst (λ (x : AgeDue). same_due x d ≡ true) is (same_due-refl d))

some_is : (a b : ℕ) → Some a ≡ Some b → a ≡ b
some_is a b is = cc

-- an entry comes to what is due in so many moments, and to nothing else
pub comes_to : (clock age : ℕ) (d : AgeDue) → clock < 65536 → ComesToAge clock (Some age) d → (d ≡ record { moment = clock; age = age; key = d.key }) ⊎ (is_coming clock age d.key d ≡ true)
unfolding is_coming
comes_to clock age d c comes =
    let same : age ≡ comes.age = some_is age comes.age comes.is in
    let sum : age + ahead clock d.moment ≡ d.age = ap (λ (n : ℕ). n + ahead clock d.moment) same ∙ comes.then_is in
    elim (zero_or (ahead clock d.moment)) [
      | inl none ↦ inl (due_made d clock age (ahead-none clock d.moment c comes.within none) (omega arith))
      | inr some ↦
          let left : ahead clock d.moment ≡ d.age - age = omega arith in
          let when : d.moment ≡ (clock + (d.age - age)) % 65536 = ahead-is clock d.moment (d.age - age) c comes.within left in
          let young : age < d.age = omega arith in
          inr (elim (told_cases d.age comes.told) [
            | inl at ↦ or_left (nat_lt age 1800 && same_due (coming clock age 1800 d.key) d) (nat_lt age 3600 && same_due (coming clock age 3600 d.key) d)
                (comes_at clock age 1800 d (omega arith) at (when ∙ ap (λ (n : ℕ). (clock + (n - age)) % 65536) at))
            | inr at ↦ or_right (nat_lt age 1800 && same_due (coming clock age 1800 d.key) d) (nat_lt age 3600 && same_due (coming clock age 3600 d.key) d)
                (comes_at clock age 3600 d (omega arith) at (when ∙ ap (λ (n : ℕ). (clock + (n - age)) % 65536) at))
          ])
    ]
  where
    zero_or : (n : ℕ) → (n ≡ 0) ⊎ (0 < n)
    zero_or n = grind arith

coming_told : (clock age told : ℕ) (key : LsaKey) (d : AgeDue) → clock < 65536 → told < 65536 → is_told told ≡ true → nat_lt age told && same_due (coming clock age told key) d ≡ true → (d.key ≡ key) × ComesToAge clock (Some age) d × (0 < ahead clock d.moment)
coming_told clock age told key d c small is_one is =
    let p = split_and (nat_lt age told) (same_due (coming clock age told key) d) is in
    let young : age < told = ltb-true age told p.0 in
    let same : coming clock age told key ≡ d = same_due-eq (coming clock age told key) d p.1 in
    let far : ahead clock ((clock + (told - age)) % 65536) ≡ told - age = ahead-of clock (told - age) c (omega arith) in
    subst (λ (x : AgeDue). (x.key ≡ key) × ComesToAge clock (Some age) x × (0 < ahead clock x.moment)) same
    (refl, record { told = is_one; within = omega arith; age = age; is = refl; then_is = omega arith }, omega arith)

pub coming_is : (clock age : ℕ) (key : LsaKey) (d : AgeDue) → clock < 65536 → is_coming clock age key d ≡ true → (d.key ≡ key) × ComesToAge clock (Some age) d × (0 < ahead clock d.moment)
unfolding is_coming
coming_is clock age key d c is =
    elim (bool_or (nat_lt age 1800 && same_due (coming clock age 1800 key) d) (nat_lt age 3600 && same_due (coming clock age 3600 key) d) is) [
      | inl one ↦ coming_told clock age 1800 key d c (omega arith) refl one
      | inr two ↦ coming_told clock age 3600 key d c (omega arith) refl two
    ]

-- ---- one entry changes

-- the entry of a key has another age, or none, and what is due of it is so too
pub AreDue-put : (clock : ℕ) (key : LsaKey) (now : Option ℕ) (es fs : List (LsaKey × Stored)) (due after : List AgeDue) → AreDue clock es due
    → ((q : LsaKey) → age_of clock fs q ≡ (if same_key key q then now else age_of clock es q))
    → ((d : AgeDue) → same_key key d.key ≡ false → has_due after d ≡ has_due due d)
    → ((d : AgeDue) → d.key ≡ key → has_due after d ≡ true → ComesToAge clock now d)
    → ((d : AgeDue) → d.key ≡ key → 0 < ahead clock d.moment → ComesToAge clock now d → has_due after d ≡ true)
    → AreDue clock fs after
AreDue-put clock key now es fs due after was ages others sound whole = record {
  sound = λ d there. elim (bool_cases (same_key key d.key)) [
    | inl one ↦
        let k = same_key-eq key d.key one in
        let age : age_of clock fs d.key ≡ now = ages d.key ∙ (rw one refl) in
        subst (λ (o : Option ℕ). ComesToAge clock o d) (sym age) (sound d (sym k) there)
    | inr two ↦
        let age : age_of clock fs d.key ≡ age_of clock es d.key = ages d.key ∙ (rw two refl) in
        subst (λ (o : Option ℕ). ComesToAge clock o d) (sym age) (was.sound d (sym (others d two) ∙ there))
  ];
  whole = λ d far comes. elim (bool_cases (same_key key d.key)) [
    | inl one ↦
        let k = same_key-eq key d.key one in
        let age : age_of clock fs d.key ≡ now = ages d.key ∙ (rw one refl) in
        whole d (sym k) far (subst (λ (o : Option ℕ). ComesToAge clock o d) age comes)
    | inr two ↦
        let age : age_of clock fs d.key ≡ age_of clock es d.key = ages d.key ∙ (rw two refl) in
        others d two ∙ was.whole d far (subst (λ (o : Option ℕ). ComesToAge clock o d) age comes)
  ];
}

-- ---- changes of the map

-- what the map has after a change at a key
pub stored_updated : (m n : BTreeMap LsaKey Stored) (key : LsaKey) (w : Option Stored) → tree.Updates key_cmp m n key w → (q : LsaKey) → stored_of n.entries q ≡ (if same_key key q then w else stored_of m.entries q)
stored_updated m n key w up q =
    sym (stored_of-get n q) ∙ up.0 q ∙ ap (λ (b : Bool). cond b w (tree.get key_cmp m q)) (is_eq-key_cmp key q)
    ∙ ap (λ (o : Option Stored). cond (same_key key q) w o) (stored_of-get m q)

-- what holds of the entry of each key holds of each entry
pub all_stored : (P : LsaKey × Stored → Type 0) (m : BTreeMap LsaKey Stored) → tree.IsOrdered key_cmp m → ((k : LsaKey) (s : Stored) → stored_of m.entries k ≡ Some s → P (k, s)) → AllByRecursion P m.entries
all_stored P m ordered each = all_from m.entries (recursion_from_All (λ e. tree.get key_cmp m e.0 ≡ Some e.1) m.entries (All-found key_total m ordered))
  where
    all_from : (es : List (LsaKey × Stored)) → AllByRecursion (λ e. tree.get key_cmp m e.0 ≡ Some e.1) es → AllByRecursion P es
    all_from [] all = tt
    all_from (e ∷ es) all = (each e.0 e.1 (sym (stored_of-get m e.0) ∙ all.0), all_from es all.1)

-- the database after a change at a key
pub Puts-stored : (clock : ℕ) (key : LsaKey) (o : Option Stored) (es fs : List (LsaKey × Stored)) (due after : List AgeDue)
    → AllByRecursion (IsStored clock) es → AllByRecursion (IsStored clock) fs
    → ((q : LsaKey) → stored_of fs q ≡ (if same_key key q then o else stored_of es q))
    → ((d : AgeDue) → same_key key d.key ≡ false → has_due after d ≡ has_due due d)
    → Puts key (option_map (λ s. held_at clock after (key, s)) o) (map (held_at clock due) es) (map (held_at clock after) fs)
Puts-stored clock key o es fs due after all_es all_fs put others q = held_of-stored clock after fs all_fs q ∙ elim (bool_cases (same_key key q)) [
  | inl one ↦
      let k = same_key-eq key q one in
      let stored : stored_of fs q ≡ o = put q ∙ (rw one refl) in
      rw (one, stored) (ap (λ (x : LsaKey). option_map (λ s. held_at clock after (x, s)) o) (sym k))
  | inr two ↦
      let stored : stored_of fs q ≡ stored_of es q = put q ∙ (rw two refl) in
      rw (two, stored) (same_held (stored_of es q) two ∙ sym (held_of-stored clock due es all_es q))
]
  where
    same_held : (x : Option Stored) → same_key key q ≡ false → option_map (λ s. held_at clock after (q, s)) x ≡ option_map (λ s. held_at clock due (q, s)) x
    same_held None apart = refl
    same_held (Some s) apart = ap (λ (b : Bool). Some (record { entry = record { age = age_at clock s.timer; contents = s.lsa; tick = s.tick; by_flooding = s.by_flooding }; reached = b })) (others (record { moment = clock; age = age_at clock s.timer; key = q }) apart)

-- an entry brought to MaxAge, in the words of the map
pub stopped_put : (key q : LsaKey) (s : Stored) (es : List (LsaKey × Stored)) (o : Option Stored) → stored_of es key ≡ Some s → o ≡ (if same_key key q then Some (record s { timer = Expired }) else stored_of es q)
    → o ≡ (if same_key key q then option_map timer_stopped (stored_of es q) else stored_of es q)
stopped_put key q s es o was is = elim (bool_cases (same_key key q)) [
  | inl one ↦
      let k = same_key-eq key q one in
      let there : stored_of es q ≡ Some s = subst (λ (x : LsaKey). stored_of es x ≡ Some s) k was in
      let here : o ≡ Some (record s { timer = Expired }) = is ∙ (rw one refl) in
      rw one (here ∙ sym (ap (λ (x : Option Stored). option_map timer_stopped x) there))
  | inr two ↦ is ∙ (rw two refl)
]

pub stopped_none : (key q : LsaKey) (es : List (LsaKey × Stored)) → stored_of es key ≡ None → stored_of es q ≡ (if same_key key q then option_map timer_stopped (stored_of es q) else stored_of es q)
stopped_none key q es was = elim (bool_cases (same_key key q)) [
  | inl one ↦
      let k = same_key-eq key q one in
      let there : stored_of es q ≡ None = subst (λ (x : LsaKey). stored_of es x ≡ None) k was in
      rw (one, there) refl
  | inr two ↦ rw two refl
]
