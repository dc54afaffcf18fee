-- The keys that are due now are those of the entries that came to an age at the last tick.
use Rattle.std.proofs.Common.{eq-eqb, ◌≡◌, ◌<◌, ◌==◌, ◌&&◌, ◌||◌, inl, inr, ℕ, Bool, true, false, List, [], ◌∷◌, filter, map, Option, Some, None, option_map, refl, ap, sym, ◌∙◌, subst, arith}
use Rattle.std.proofs.lemmas.Bool.{eqb-true}
use Rattle.std.specs.List.{AllByRecursion}
use Rattle.std.specs.List.Sorted.{IsStrictlySortedBy}
use Rattle.std.specs.declared.cmp.Ordering.TheVariants.{Less}
use Rattle.ospf_base.specs.Rising.{IsRisingBy}
use Rattle.ospf_base.specs.Keys.{Precedes, same_key}
use Rattle.ospf_base.proofs.KeyOrder.{Precedes-cases, Precedes-trans}
use Rattle.ospf_base.specs.declared.ids.LsaKey.{LsaKey}
use Rattle.ospf_lsdb.specs.Database.{Held, key_at, held_of, is_some_and, reached_at}
use Rattle.ospf_lsdb.proofs.Words.{AreKeysRising}
use Rattle.ospf_lsdb.proofs.Places.{AllAfter}
use Rattle.ospf_lsdb.specs.declared.moments.AgeDue.{AgeDue}
use Rattle.ospf_lsdb.specs.declared.dated.Stored.{Stored}
use Rattle.ospf_lsdb.specs.Moments.{due_cmp, has_due, same_due, is_due_at, keys_at, among}
use Rattle.ospf_lsdb.specs.Timers.{age_at, held_at, stored_of, age_of, AreDue, AreKeptEntries}
use Rattle.ospf_lsdb.proofs.MapLemmas.{bool_cases}
use Rattle.ospf_base.proofs.SameKeys.{same_key-eq, same_key-refl, same_key-apart_after}
use Rattle.ospf_lsdb.proofs.MomentLemmas.{same_due-eq, same_due-refl, split_and, made_is, apart_at}
use Rattle.ospf_lsdb.proofs.OrderLemmas.{due_cmp-less}
use Rattle.ospf_lsdb.proofs.RingLemmas.{ahead-now}
use Rattle.ospf_lsdb.proofs.TimerLemmas.{held_of-stored, rising_stored}

abbrev pub KeysAfter : LsaKey → List LsaKey → Type 0
KeysAfter k ks = AllByRecursion (λ o. Precedes k o) ks

pub not_among : (k : LsaKey) (ks : List LsaKey) → KeysAfter k ks → among ks k ≡ false
not_among k [] after = refl
not_among k (x ∷ xs) after = let no = same_key-apart_after x k after.0 in rw no (not_among k xs after.1)

after_trans : (j k : LsaKey) (ks : List LsaKey) → Precedes j k → KeysAfter k ks → KeysAfter j ks
after_trans j k [] lt after = tt
after_trans j k (x ∷ xs) lt after = (Precedes-trans j k x lt after.0, after_trans j k xs lt after.1)

among_first : (k : LsaKey) (ks : List LsaKey) → among (k ∷ ks) k ≡ true
among_first k ks = let is = same_key-refl k in rw is refl

-- rising lists of the same keys are one
pub same_keys_lists : (a b : List LsaKey) → IsRisingBy Precedes a → IsRisingBy Precedes b → ((k : LsaKey) → among a k ≡ among b k) → a ≡ b
same_keys_lists [] [] ra rb same = refl
same_keys_lists [] (y ∷ ys) ra rb same = absurd (let e = same y in let f = among_first y ys in cc)
same_keys_lists (x ∷ xs) [] ra rb same = absurd (let e = same x in let f = among_first x xs in cc)
same_keys_lists (x ∷ xs) (y ∷ ys) ra rb same = elim (Precedes-cases x y) [
  | inl key ↦ ap (λ (k : LsaKey). k ∷ xs) key ∙ ap (λ (t : List LsaKey). y ∷ t) (same_keys_lists xs ys ra.1 rb.1 (rest key))
  | inr far ↦ elim far [
    | inl less ↦ absurd (let e = same x in let f = among_first x xs in let g = not_among x (y ∷ ys) (less, after_trans x y ys less rb.0) in cc)
    | inr more ↦ absurd (let e = same y in let f = among_first y ys in let g = not_among y (x ∷ xs) (more, after_trans y x xs more ra.0) in cc)
  ]
]
  where
    rest : x ≡ y → (k : LsaKey) → among xs k ≡ among ys k
    rest key k = elim (bool_cases (same_key x k)) [
      | inl one ↦
          let e = same_key-eq x k one in
          let p : among xs k ≡ false = subst (λ (q : LsaKey). among xs q ≡ false) e (not_among x xs ra.0) in
          let q : among ys k ≡ false = subst (λ (q : LsaKey). among ys q ≡ false) (sym key ∙ e) (not_among y ys rb.0) in
          p ∙ sym q
      | inr two ↦
          let two_y : same_key y k ≡ false = subst (λ (q : LsaKey). same_key q k ≡ false) key two in
          let left : among (x ∷ xs) k ≡ among xs k = rw two refl in
          let right : among (y ∷ ys) k ≡ among ys k = rw two_y refl in
          sym left ∙ same k ∙ right
    ]

-- what is due at a moment and an age rises
due_after : (m a : ℕ) (d : AgeDue) (ds : List AgeDue) → is_due_at m a d ≡ true → AllByRecursion (λ y. due_cmp d y ≡ Less) ds → KeysAfter d.key (keys_at m a ds)
unfolding keys_at
due_after m a d [] at less = tt
due_after m a d (x ∷ xs) at less = elim (bool_cases (is_due_at m a x)) [
  | inl one ↦
      let p = split_and (d.moment == m) (d.age == a) at in
      let q = split_and (x.moment == m) (x.age == a) one in
      let same_moment : d.moment ≡ x.moment = eqb-true d.moment m p.0 ∙ sym (eqb-true x.moment m q.0) in
      let same_age : d.age ≡ x.age = eqb-true d.age a p.1 ∙ sym (eqb-true x.age a q.1) in
      rw one (due_cmp-less d x same_moment same_age less.0, due_after m a d xs at less.1)
  | inr two ↦ rw two (due_after m a d xs at less.1)
]

pub keys_at-rise : (m a : ℕ) (ds : List AgeDue) → IsStrictlySortedBy due_cmp ds → IsRisingBy Precedes (keys_at m a ds)
unfolding keys_at IsStrictlySortedBy
keys_at-rise m a [] sorted = tt
keys_at-rise m a (d ∷ ds) sorted = elim (bool_cases (is_due_at m a d)) [
  | inl one ↦ rw one (due_after m a d ds one sorted.0, keys_at-rise m a ds sorted.1)
  | inr two ↦ rw two (keys_at-rise m a ds sorted.1)
]

-- what is among them
same_due_at : (m a : ℕ) (k : LsaKey) (d : AgeDue) → is_due_at m a d ≡ true → same_due (record { moment = m; age = a; key = k }) d ≡ same_key d.key k
same_due_at m a k d at = elim (bool_cases (same_key d.key k)) [
  | inl one ↦
      let p = split_and (d.moment == m) (d.age == a) at in
      let is : d ≡ record { moment = m; age = a; key = k } = made_is d m a k (eqb-true d.moment m p.0) (eqb-true d.age a p.1) (same_key-eq d.key k one) in
      subst (λ (x : AgeDue). same_due x d ≡ true) is (same_due-refl d) ∙ sym one
  | inr two ↦ elim (bool_cases (same_due (record { moment = m; age = a; key = k }) d)) [
    | inl same ↦
        let key : d.key ≡ k = sym (ap (λ (x : AgeDue). x.key) (same_due-eq (record { moment = m; age = a; key = k }) d same)) in
        let sure : same_key d.key k ≡ true = subst (λ (q : LsaKey). same_key d.key q ≡ true) key (same_key-refl d.key) in
        absurd (cc)
    | inr other ↦ other ∙ sym two
  ]
]

pub keys_at-among : (m a : ℕ) (ds : List AgeDue) (k : LsaKey) → among (keys_at m a ds) k ≡ has_due ds (record { moment = m; age = a; key = k })
unfolding keys_at
keys_at-among m a [] k = refl
keys_at-among m a (d ∷ ds) k = elim (bool_cases (is_due_at m a d)) [
  | inl one ↦ let e = same_due_at m a k d one in rw (one, e) (ap (λ (b : Bool). same_key d.key k || b) (keys_at-among m a ds k))
  | inr two ↦ let e = apart_at m a k d two in rw (two, e) (keys_at-among m a ds k)
]

-- ---- the entries that pass a test

-- their keys
abbrev pub keys_where : (Held → Bool) → List Held → List LsaKey
keys_where test hs = map key_at (filter test hs)

where_after : (test : Held → Bool) (k : LsaKey) (hs : List Held) → AllAfter k hs → KeysAfter k (keys_where test hs)
where_after test k [] after = tt
where_after test k (h ∷ hs) after = elim (bool_cases (test h)) [
  | inl one ↦ rw one (after.0, where_after test k hs after.1)
  | inr two ↦ rw two (where_after test k hs after.1)
]

pub where-rise : (test : Held → Bool) (hs : List Held) → AreKeysRising hs → IsRisingBy Precedes (keys_where test hs)
where-rise test [] rises = tt
where-rise test (h ∷ hs) rises = elim (bool_cases (test h)) [
  | inl one ↦ rw one (where_after test (key_at h) hs rises.0, where-rise test hs rises.1)
  | inr two ↦ rw two (where-rise test hs rises.1)
]

pub where-among : (test : Held → Bool) (hs : List Held) → AreKeysRising hs → (k : LsaKey) → among (keys_where test hs) k ≡ is_some_and test (held_of hs k)
where-among test [] rises k = refl
where-among test (h ∷ hs) rises k = elim (bool_cases (same_key (key_at h) k)) [
  | inl one ↦
      let key = same_key-eq (key_at h) k one in
      let none : among (keys_where test hs) k ≡ false = subst (λ (q : LsaKey). among (keys_where test hs) q ≡ false) key (not_among (key_at h) (keys_where test hs) (where_after test (key_at h) hs rises.0)) in
      elim (bool_cases (test h)) [
        | inl told ↦ rw (told, one, told) refl
        | inr quiet ↦ rw (quiet, one, quiet) none
      ]
  | inr two ↦ elim (bool_cases (test h)) [
    | inl told ↦ rw (told, two) (where-among test hs rises.1 k)
    | inr quiet ↦ rw (quiet, two) (where-among test hs rises.1 k)
  ]
]

pub reached-rise : (age : ℕ) (hs : List Held) → AreKeysRising hs → IsRisingBy Precedes (reached_at age hs)
unfolding reached_at
reached-rise age hs rises = where-rise (λ h. h.reached && (h.entry.age == age)) hs rises

pub reached-among : (age : ℕ) (hs : List Held) → AreKeysRising hs → (k : LsaKey) → among (reached_at age hs) k ≡ is_some_and (λ h. h.reached && (h.entry.age == age)) (held_of hs k)
unfolding reached_at
reached-among age hs rises k = where-among (λ h. h.reached && (h.entry.age == age)) hs rises k

-- what is due now is what came to its age at the last tick
due_of : (clock a : ℕ) (es : List (LsaKey × Stored)) (due : List AgeDue) (k : LsaKey) → clock < 65536 → AreDue clock es due → (o : Option Stored) → stored_of es k ≡ o
    → has_due due (record { moment = clock; age = a; key = k }) ≡ is_some_and (λ h. h.reached && (h.entry.age == a)) (option_map (λ s. held_at clock due (k, s)) o)
due_of clock a es due k c are None is = elim (bool_cases (has_due due (record { moment = clock; age = a; key = k }))) [
  | inl one ↦
      let comes = are.sound (record { moment = clock; age = a; key = k }) one in
      let none : age_of clock es k ≡ None = ap (λ (o : Option Stored). option_map (λ s. age_at clock s.timer) o) is in
      absurd (let e = comes.is in cc)
  | inr two ↦ two
]
due_of clock a es due k c are (Some s) is = elim (bool_cases (age_at clock s.timer == a)) [
  | inl one ↦
      let e = eqb-true (age_at clock s.timer) a one in
      rw one (ap (λ (n : ℕ). has_due due (record { moment = clock; age = n; key = k })) (sym e) ∙ and_one (has_due due (record { moment = clock; age = age_at clock s.timer; key = k })))
  | inr two ↦
      rw two (quiet two ∙ sym (and_none (has_due due (record { moment = clock; age = age_at clock s.timer; key = k }))))
]
  where
    and_one : (b : Bool) → b ≡ b && true
    and_one true = refl
    and_one false = refl

    and_none : (b : Bool) → b && false ≡ false
    and_none true = refl
    and_none false = refl

    quiet : (age_at clock s.timer == a) ≡ false → has_due due (record { moment = clock; age = a; key = k }) ≡ false
    quiet two = elim (bool_cases (has_due due (record { moment = clock; age = a; key = k }))) [
      | inl there ↦
          let comes = are.sound (record { moment = clock; age = a; key = k }) there in
          let some : age_of clock es k ≡ Some (age_at clock s.timer) = ap (λ (o : Option Stored). option_map (λ s. age_at clock s.timer) o) is in
          let same : age_at clock s.timer ≡ comes.age = some_is (age_at clock s.timer) comes.age (sym some ∙ comes.is) in
          let now = ahead-now clock c in
          let at : age_at clock s.timer ≡ a = omega (arith, comes.then_is) in
          absurd (let e = eq-eqb (age_at clock s.timer) a at in cc)
      | inr other ↦ other
    ]
      where
        some_is : (x y : ℕ) → Some x ≡ Some y → x ≡ y
        some_is x y e = cc

-- so the walk over what is due now gives the keys that reached the age
pub keys_at-reached : (clock a : ℕ) (es : List (LsaKey × Stored)) (due : List AgeDue) → clock < 65536 → AreKeptEntries clock es due → IsStrictlySortedBy due_cmp due
    → keys_at clock a due ≡ reached_at a (map (held_at clock due) es)
keys_at-reached clock a es due c kept sorted =
    let rises = rising_stored clock due es kept.stored kept.rising in
    same_keys_lists (keys_at clock a due) (reached_at a (map (held_at clock due) es)) (keys_at-rise clock a due sorted) (reached-rise a (map (held_at clock due) es) rises)
    (λ k. keys_at-among clock a due k ∙ due_of clock a es due k c kept.are_due (stored_of es k) refl
    ∙ sym (ap (λ (o : Option Held). is_some_and (λ h. h.reached && (h.entry.age == a)) o) (held_of-stored clock due es kept.stored k))
    ∙ sym (reached-among a (map (held_at clock due) es) rises k))
