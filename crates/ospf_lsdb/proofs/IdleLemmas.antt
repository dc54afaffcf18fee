-- Moments in which nothing is due.
use Rattle.std.proofs.Common.{◌≡◌, ◌<◌, ◌≤◌, ◌==◌, ◌&&◌, ◌||◌, not, ◌⊎◌, inl, inr, ◌+◌, ℕ, Bool, true, false, List, [], ◌∷◌, length, map, Some, option_map, refl, ap, sym, ◌∙◌, arith, BTreeMap, if◌then◌else◌}
use Rattle.std.proofs.lemmas.Bool.{eqb-true}
use Rattle.std.specs.Map.{keys_of}
use Rattle.ospf_base.specs.declared.ids.LsaKey.{LsaKey}
use Rattle.ospf_lsdb.specs.Database.{Ages, reached_at}
use Rattle.ospf_lsdb.specs.declared.moments.AgeDue.{AgeDue}
use Rattle.ospf_lsdb.specs.declared.dated.Stored.{Stored}
use Rattle.ospf_lsdb.specs.Moments.{ahead, has_due, same_due, is_coming, is_due_at, keys_at, among, IsIdleUntil}
use Rattle.ospf_lsdb.specs.Timers.{age_at, held_at, stored_of, timer_stopped, AreKeptEntries}
use Rattle.ospf_lsdb.proofs.MapLemmas.{bool_cases}
use Rattle.ospf_lsdb.proofs.MomentLemmas.{same_due-refl, split_and}
use Rattle.ospf_lsdb.proofs.RingLemmas.{ahead-now, ahead-of, ahead-tick}
use Rattle.ospf_lsdb.proofs.TimerLemmas.{bool_or, told_cases, coming_is}
use Rattle.ospf_lsdb.proofs.TickLemmas.{then_at, Forgets, Looks, sorted_from-rising, ticks_kept, ticks_ages}

-- less is due, so it stays idle
pub idle_fewer : (clock count : ℕ) (due after : List AgeDue) → IsIdleUntil clock count due → ((q : AgeDue) → has_due after q ≡ true → has_due due q ≡ true) → IsIdleUntil clock count after
idle_fewer clock count due after idle fewer = record { none_before = λ d within there. idle.none_before d within (fewer d there) }

some_is : (a b : ℕ) → Some a ≡ Some b → a ≡ b
some_is a b is = cc

-- what an entry comes to is no nearer than the next of the told ages
coming_until : (clock age until : ℕ) (key : LsaKey) (d : AgeDue) → clock < 65536 → (age < 1800 → age + until ≡ 1800) → (1800 ≤ age → age < 3600 → age + until ≡ 3600) → is_coming clock age key d ≡ true → until ≤ ahead clock d.moment
coming_until clock age until key d c refresh expiry is =
    let coming = coming_is clock age key d c is in
    let comes = coming.1 in
    let same : age ≡ comes.age = some_is age comes.age comes.is in
    let sum : age + ahead clock d.moment ≡ d.age = ap (λ (n : ℕ). n + ahead clock d.moment) same ∙ comes.then_is in
    let far = coming.2 in
    elim (told_cases d.age comes.told) [ inl at ↦ omega (arith, refresh) | inr at ↦ elim (young_or_old age) [ inl less ↦ omega (arith, refresh) | inr more ↦ omega (arith, expiry) ] ]
  where
    young_or_old : (n : ℕ) → (n < 1800) ⊎ (1800 ≤ n)
    young_or_old n = grind arith

-- what was due, and what an LSA comes to that is installed
pub idle_installed : (clock idle age until least : ℕ) (key : LsaKey) (due after : List AgeDue) → clock < 65536 → IsIdleUntil clock idle due → (age < 1800 → age + until ≡ 1800) → (1800 ≤ age → age < 3600 → age + until ≡ 3600) → least ≤ idle → least ≤ until
    → ((q : AgeDue) → has_due after q ≡ true → is_coming clock age key q || has_due due q ≡ true) → IsIdleUntil clock least after
idle_installed clock idle age until least key due after c quiet refresh expiry less sooner more = record {
  none_before = λ d within there. elim (bool_or (is_coming clock age key d) (has_due due d) (more d there)) [
    | inl new ↦ let far = coming_until clock age until key d c refresh expiry new in omega arith
    | inr old ↦ let far = quiet.none_before d within old in omega arith
  ];
}

-- ---- a tick in which nothing is due

not_near : (clock idle : ℕ) (es : List (LsaKey × Stored)) (due : List AgeDue) → AreKeptEntries clock es due → IsIdleUntil clock idle due → 2 ≤ idle → (m a : ℕ) → ahead clock m < 2 → (d : AgeDue) → has_due due d ≡ true → is_due_at m a d ≡ false
not_near clock idle es due kept quiet two m a near d there = elim (bool_cases (is_due_at m a d)) [
  | inl one ↦
      let p = split_and (d.moment == m) (d.age == a) one in
      let same : ahead clock d.moment ≡ ahead clock m = ap (λ (n : ℕ). ahead clock n) (eqb-true d.moment m p.0) in
      let far = quiet.none_before d (kept.are_due.sound d there).within there in
      absurd (omega arith)
  | inr two ↦ two
]

or_right : (a b : Bool) → b ≡ true → a || b ≡ true
or_right true b p = refl
or_right false b p = p

keys_at-empty : (m a : ℕ) (dues : List AgeDue) → ((d : AgeDue) → has_due dues d ≡ true → is_due_at m a d ≡ false) → keys_at m a dues ≡ []
unfolding keys_at
keys_at-empty m a [] none = refl
keys_at-empty m a (d ∷ ds) none =
    let sure = same_due-refl d in
    let here : is_due_at m a d ≡ false = none d (rw sure refl) in
    rw here (keys_at-empty m a ds (λ q there. none q (or_right (same_due q d) (has_due ds q) there)))

now_near : (clock : ℕ) → clock < 65536 → ahead clock clock < 2
now_near clock c = let e = ahead-now clock c in omega arith

then_near : (clock : ℕ) → clock < 65536 → ahead clock (then_at clock) < 2
then_near clock c = let e = ahead-of clock 1 c (omega arith) in omega arith

idle_forgets : (clock idle : ℕ) (es : List (LsaKey × Stored)) (due : List AgeDue) → AreKeptEntries clock es due → IsIdleUntil clock idle due → 2 ≤ idle → Forgets clock due due
idle_forgets clock idle es due kept quiet two q = elim (bool_cases (has_due due q)) [
  | inl one ↦
      let x = not_near clock idle es due kept quiet two clock 3600 (now_near clock kept.on_ring) q one in
      let y = not_near clock idle es due kept quiet two clock 1800 (now_near clock kept.on_ring) q one in
      rw (x, y, one) refl
  | inr none ↦ rw none (neither (is_due_at clock 3600 q) (is_due_at clock 1800 q))
]
  where
    neither : (a b : Bool) → false ≡ not a && (not b && false)
    neither true b = refl
    neither false true = refl
    neither false false = refl

idle_at : (clock idle : ℕ) (es : List (LsaKey × Stored)) (due : List AgeDue) → AreKeptEntries clock es due → IsIdleUntil clock idle due → 2 ≤ idle → keys_at (then_at clock) 3600 due ≡ []
idle_at clock idle es due kept quiet two = keys_at-empty (then_at clock) 3600 due (not_near clock idle es due kept quiet two (then_at clock) 3600 (then_near clock kept.on_ring))

idle_untouched : (clock idle : ℕ) (es : List (LsaKey × Stored)) (due : List AgeDue) → AreKeptEntries clock es due → IsIdleUntil clock idle due → 2 ≤ idle → Looks (keys_at (then_at clock) 3600 due) es es
idle_untouched clock idle es due kept quiet two q = ap (λ (ks : List LsaKey). if among ks q then option_map timer_stopped (stored_of es q) else stored_of es q) (sym (idle_at clock idle es due kept quiet two))

-- what is kept stays so
pub idle_kept : (clock idle : ℕ) (m : BTreeMap LsaKey Stored) (due : List AgeDue) → AreKeptEntries clock m.entries due → IsIdleUntil clock idle due → 2 ≤ idle → AreKeptEntries (then_at clock) m.entries due
idle_kept clock idle m due kept quiet two =
    ticks_kept clock m m due due kept (sorted_from-rising (keys_of m.entries) kept.rising) (idle_forgets clock idle m.entries due kept quiet two) (idle_untouched clock idle m.entries due kept quiet two)

-- the next that is due is one moment nearer
pub idle_less : (clock next : ℕ) (due : List AgeDue) → clock < 65536 → IsIdleUntil clock (ahead clock next) due → 2 ≤ ahead clock next → IsIdleUntil (then_at clock) (ahead (then_at clock) next) due
idle_less clock next due c quiet two = record {
  none_before = λ d within there.
      let far = quiet.none_before d within there in
      let nearer = ahead-tick clock d.moment c (omega arith) in
      let next_nearer = ahead-tick clock next c (omega arith) in
      omega arith;
}

-- a count of moments, as the moment that is so far ahead
pub idle_moment : (clock count next : ℕ) (due : List AgeDue) → ahead clock next ≡ count → IsIdleUntil clock count due → IsIdleUntil clock (ahead clock next) due
idle_moment clock count next due is quiet = rw is quiet

-- each entry is older
pub idle_ages : (clock idle : ℕ) (m : BTreeMap LsaKey Stored) (due : List AgeDue) → AreKeptEntries clock m.entries due → IsIdleUntil clock idle due → 2 ≤ idle → Ages (map (held_at clock due) m.entries) (map (held_at (then_at clock) due) m.entries)
idle_ages clock idle m due kept quiet two =
    ticks_ages clock m.entries m.entries due due kept (idle_kept clock idle m due kept quiet two) (idle_forgets clock idle m.entries due kept quiet two) (idle_untouched clock idle m.entries due kept quiet two)

none_reached : (m : ℕ) (due : List AgeDue) (es : List (LsaKey × Stored)) → ((d : AgeDue) → d.moment ≡ m → has_due due d ≡ false) → reached_at 3600 (map (held_at m due) es) ≡ []
unfolding reached_at
none_reached m due [] none = refl
none_reached m due (e ∷ es) none = let quiet = none (record { moment = m; age = age_at m e.1.timer; key = e.0 }) refl in rw quiet (none_reached m due es none)

-- and none comes to MaxAge
pub idle_looks : (clock idle : ℕ) (es : List (LsaKey × Stored)) (due : List AgeDue) → AreKeptEntries clock es due → IsIdleUntil clock idle due → 2 ≤ idle → 0 ≡ length (reached_at 3600 (map (held_at (then_at clock) due) es))
idle_looks clock idle es due kept quiet two = sym (ap length (none_reached (then_at clock) due es none))
  where
    none : (d : AgeDue) → d.moment ≡ then_at clock → has_due due d ≡ false
    none d at = elim (bool_cases (has_due due d)) [
      | inl there ↦
          let same : ahead clock d.moment ≡ ahead clock (then_at clock) = ap (λ (n : ℕ). ahead clock n) at in
          let near = then_near clock kept.on_ring in
          let far = quiet.none_before d (kept.are_due.sound d there).within there in
          absurd (omega arith)
      | inr other ↦ other
    ]
