-- A tick of a database by moments.
use Rattle.std.proofs.Common.{eq-eqb, ◌≡◌, ◌<◌, ◌≤◌, ◌==◌, ◌&&◌, not, ◌⊎◌, inl, inr, ◌+◌, ◌%◌, ℕ, Bool, true, false, List, [], ◌∷◌, length, map, Option, Some, None, option_map, refl, ap, sym, ◌∙◌, subst, arith, BTreeMap, if◌then◌else◌}
use Rattle.std.proofs.lemmas.Bool.{eqb-true}
use Rattle.std.specs.BTreeMap as tree
use Rattle.std.specs.List.{AllByRecursion}
use Rattle.std.specs.List.Sorted.{IsStrictlySortedBy}
use Rattle.std.specs.Map.{keys_of}
use Rattle.std.specs.declared.cmp.Ordering.TheVariants.{Less}
use Rattle.ospf_base.specs.Rising.{IsRisingBy}
use Rattle.ospf_base.specs.Keys.{Precedes, key_cmp}
use Rattle.ospf_base.specs.declared.ids.LsaKey.{LsaKey}
use Rattle.ospf_lsdb.specs.Database.{Held, is_told, older, reached_at, Ages}
use Rattle.ospf_lsdb.specs.declared.moments.AgeDue.{AgeDue}
use Rattle.ospf_lsdb.specs.declared.dated.Stored.{Stored}
use Rattle.ospf_lsdb.specs.declared.dated.Timer.{Timer}
use Rattle.ospf_lsdb.specs.declared.dated.Timer.TheVariants.{Since, Expired}
use Rattle.ospf_lsdb.specs.Moments.{ahead, due_cmp, has_due, is_due_at, keys_at, among}
use Rattle.ospf_lsdb.specs.Timers.{age_at, held_at, stored_of, age_of, timer_stopped, ComesToAge, AreDue, IsStored, AreKeptEntries}
use Rattle.ospf_lsdb.proofs.EntryLemmas.{older-young, older-old}
use Rattle.ospf_lsdb.proofs.MapLemmas.{bool_cases}
use Rattle.ospf_lsdb.proofs.MomentLemmas.{split_and}
use Rattle.ospf_base.proofs.KeyMaps.{less-key_cmp}
use Rattle.ospf_lsdb.proofs.RingLemmas.{ahead-none, ahead-now, ahead-of, ahead-tick, ahead-past}
use Rattle.ospf_lsdb.proofs.TimerLemmas.{told_cases, all_stored, stored_one, held_of-stored, rising_from-sorted}
use Rattle.ospf_lsdb.proofs.ExpireLemmas.{parted, stored_aged, held_made}
use Rattle.ospf_lsdb.proofs.ReachedKeys.{keys_at-among, keys_at-reached}

-- the keys' order is the map's
pub sorted_from-rising : (ks : List LsaKey) → IsRisingBy Precedes ks → IsStrictlySortedBy key_cmp ks
unfolding IsStrictlySortedBy
sorted_from-rising [] rises = tt
sorted_from-rising (k ∷ ks) rises = (all_after k ks rises.0, sorted_from-rising ks rises.1)
  where
    all_after : (k : LsaKey) (ks : List LsaKey) → AllByRecursion (λ o. Precedes k o) ks → AllByRecursion (λ y. key_cmp k y ≡ Less) ks
    all_after k [] all = tt
    all_after k (x ∷ xs) all = (less-key_cmp k x all.0, all_after k xs all.1)

-- the moment after this
abbrev pub then_at : ℕ → ℕ
then_at clock = (clock + 1) % 65536

-- what is due once what came to pass at a moment is forgotten
abbrev pub Forgets : ℕ → List AgeDue → List AgeDue → Type 0
Forgets clock due after = (q : AgeDue) → has_due after q ≡ (not (is_due_at clock 3600 q) && (not (is_due_at clock 1800 q) && has_due due q))

is_at_here : (m a : ℕ) (d : AgeDue) → d.moment ≡ m → d.age ≡ a → is_due_at m a d ≡ true
is_at_here m a d p q = let x = eq-eqb d.moment m p in let y = eq-eqb d.age a q in rw (x, y) refl

some_or_none : (n : ℕ) → (n ≡ 0) ⊎ (0 < n)
some_or_none n = grind arith

-- what is left is still to come
left_of : (clock : ℕ) (es : List (LsaKey × Stored)) (due after : List AgeDue) → clock < 65536 → AreDue clock es due → Forgets clock due after → (d : AgeDue) → has_due after d ≡ true → (has_due due d ≡ true) × (0 < ahead clock d.moment)
left_of clock es due after c are ops d there =
    let p = parted (is_due_at clock 3600 d) (is_due_at clock 1800 d) (has_due due d) (sym (ops d) ∙ there) in
    let comes = are.sound d p.2 in
    elim (some_or_none (ahead clock d.moment)) [
      | inl none ↦
          let now = ahead-none clock d.moment c comes.within none in
          elim (told_cases d.age comes.told) [
            | inl at ↦ absurd (let e = is_at_here clock 1800 d now at in let f = p.1 in cc)
            | inr at ↦ absurd (let e = is_at_here clock 3600 d now at in let f = p.0 in cc)
          ]
      | inr far ↦ (p.2, far)
    ]

far_off : (clock a : ℕ) (d : AgeDue) → clock < 65536 → 0 < ahead clock d.moment → is_due_at clock a d ≡ false
far_off clock a d c far = elim (bool_cases (is_due_at clock a d)) [
  | inl one ↦
      let p = split_and (d.moment == clock) (d.age == a) one in
      let now : ahead clock d.moment ≡ 0 = ap (λ (m : ℕ). ahead clock m) (eqb-true d.moment clock p.0) ∙ ahead-now clock c in
      absurd (omega arith)
  | inr two ↦ two
]

left_whole : (clock : ℕ) (due after : List AgeDue) → clock < 65536 → Forgets clock due after → (d : AgeDue) → has_due due d ≡ true → 0 < ahead clock d.moment → has_due after d ≡ true
left_whole clock due after c ops d there far =
    let x = far_off clock 3600 d c far in
    let y = far_off clock 1800 d c far in
    ops d ∙ (rw (x, y, there) refl)

-- a timer a moment later
age_then : (clock : ℕ) (t : Timer) → clock < 65536 → age_at clock t < 3600 → age_at (then_at clock) t ≡ age_at clock t + 1
unfolding age_at ahead
age_then clock (Since birth) c young = omega arith
age_then clock Expired c young = absurd (omega arith)

age_expired : (clock : ℕ) (t : Timer) → t ≡ Expired → age_at clock t ≡ 3600
unfolding age_at
age_expired clock t is = ap (λ (x : Timer). age_at clock x) is

next_ahead : (clock : ℕ) → clock < 65536 → ahead clock (then_at clock) ≡ 1
next_ahead clock c = ahead-of clock 1 c (omega arith)

-- an entry a tick later
abbrev pub passed : Bool → Stored → Stored
passed b s = if b then timer_stopped s else s

-- the entry of a key comes to a told age at the next moment
comes_next : (clock : ℕ) (es : List (LsaKey × Stored)) (due after : List AgeDue) (k : LsaKey) (s : Stored) → clock < 65536 → AreDue clock es due → Forgets clock due after → stored_of es k ≡ Some s
    → is_told (age_at clock s.timer + 1) ≡ true → has_due after (record { moment = then_at clock; age = age_at clock s.timer + 1; key = k }) ≡ true
comes_next clock es due after k s c are ops is told =
    let one = next_ahead clock c in
    let far : 0 < ahead clock (then_at clock) = omega arith in
    left_whole clock due after c ops (record { moment = then_at clock; age = age_at clock s.timer + 1; key = k })
    (are.whole (record { moment = then_at clock; age = age_at clock s.timer + 1; key = k }) far
    (record { told = told; within = omega arith; age = age_at clock s.timer; is = ap (λ (o : Option Stored). option_map (λ s. age_at clock s.timer) o) is; then_is = omega arith })) far

some_is : (a b : ℕ) → Some a ≡ Some b → a ≡ b
some_is a b is = cc

-- and to nothing else
comes_only : (clock : ℕ) (es : List (LsaKey × Stored)) (due after : List AgeDue) (k : LsaKey) (s : Stored) (x : ℕ) → clock < 65536 → AreDue clock es due → Forgets clock due after → stored_of es k ≡ Some s
    → has_due after (record { moment = then_at clock; age = x; key = k }) ≡ true → (age_at clock s.timer + 1 ≡ x) × (is_told x ≡ true)
comes_only clock es due after k s x c are ops is there =
    let left = left_of clock es due after c are ops (record { moment = then_at clock; age = x; key = k }) there in
    let comes = are.sound (record { moment = then_at clock; age = x; key = k }) left.0 in
    let age : age_of clock es k ≡ Some (age_at clock s.timer) = ap (λ (o : Option Stored). option_map (λ s. age_at clock s.timer) o) is in
    let same : age_at clock s.timer ≡ comes.age = some_is (age_at clock s.timer) comes.age (sym age ∙ comes.is) in
    let one = next_ahead clock c in
    (omega (arith, comes.then_is), comes.told)

-- what a tick makes of the entry of a key
pub record Passes (clock : ℕ) (due after : List AgeDue) (k : LsaKey) (s t : Stored) : Type 0 where
  pub stored : IsStored (then_at clock) (k, t)
  pub young : age_at clock s.timer < 3600 → age_at (then_at clock) t.timer ≡ age_at clock s.timer + 1
  pub old : 3600 ≤ age_at clock s.timer → age_at (then_at clock) t.timer ≡ 3600
  pub held : held_at (then_at clock) after (k, t) ≡ older (held_at clock due (k, s))

held_young : (clock : ℕ) (es : List (LsaKey × Stored)) (due after : List AgeDue) (k : LsaKey) (s t : Stored) → clock < 65536 → AreDue clock es due → Forgets clock due after → stored_of es k ≡ Some s
    → age_at clock s.timer < 3600 → age_at (then_at clock) t.timer ≡ age_at clock s.timer + 1 → held_at (then_at clock) after (k, t) ≡ held_made (age_at (then_at clock) t.timer) s.lsa s.tick s.by_flooding (has_due after (record { moment = then_at clock; age = age_at (then_at clock) t.timer; key = k }))
    → held_at (then_at clock) after (k, t) ≡ older (held_at clock due (k, s))
held_young clock es due after k s t c are ops is less aged same =
    same
    ∙ ap (λ (n : ℕ). held_made n s.lsa s.tick s.by_flooding (has_due after (record { moment = then_at clock; age = n; key = k }))) aged
    ∙ ap (λ (b : Bool). held_made (age_at clock s.timer + 1) s.lsa s.tick s.by_flooding b) (told (is_told (age_at clock s.timer + 1)) refl)
    ∙ sym (older-young (held_at clock due (k, s)) less)
  where
    told : (b : Bool) → is_told (age_at clock s.timer + 1) ≡ b → has_due after (record { moment = then_at clock; age = age_at clock s.timer + 1; key = k }) ≡ b
    told true sure = comes_next clock es due after k s c are ops is sure
    told false untold = elim (bool_cases (has_due after (record { moment = then_at clock; age = age_at clock s.timer + 1; key = k }))) [
      | inl there ↦ absurd (let e = (comes_only clock es due after k s (age_at clock s.timer + 1) c are ops is there).1 in cc)
      | inr two ↦ two
    ]

held_old : (clock : ℕ) (es : List (LsaKey × Stored)) (due after : List AgeDue) (k : LsaKey) (s t : Stored) → clock < 65536 → AreDue clock es due → Forgets clock due after → stored_of es k ≡ Some s
    → 3600 ≤ age_at clock s.timer → age_at clock s.timer ≤ 3600 → age_at (then_at clock) t.timer ≡ 3600 → held_at (then_at clock) after (k, t) ≡ held_made (age_at (then_at clock) t.timer) s.lsa s.tick s.by_flooding (has_due after (record { moment = then_at clock; age = age_at (then_at clock) t.timer; key = k }))
    → held_at (then_at clock) after (k, t) ≡ older (held_at clock due (k, s))
held_old clock es due after k s t c are ops is more most aged same =
    same
    ∙ ap (λ (n : ℕ). held_made n s.lsa s.tick s.by_flooding (has_due after (record { moment = then_at clock; age = n; key = k }))) aged
    ∙ ap (λ (b : Bool). held_made 3600 s.lsa s.tick s.by_flooding b) quiet
    ∙ ap (λ (n : ℕ). held_made n s.lsa s.tick s.by_flooding false) full
    ∙ sym (older-old (held_at clock due (k, s)) more)
  where
    full : 3600 ≡ age_at clock s.timer
    full = omega arith

    quiet : has_due after (record { moment = then_at clock; age = 3600; key = k }) ≡ false
    quiet = elim (bool_cases (has_due after (record { moment = then_at clock; age = 3600; key = k }))) [
      | inl there ↦ absurd (let e = (comes_only clock es due after k s 3600 c are ops is there).0 in omega arith)
      | inr two ↦ two
    ]

young_or_old : (n : ℕ) → (n < 3600) ⊎ (3600 ≤ n)
young_or_old n = grind arith

-- the entry of a key that comes to MaxAge
passes_stopped : (clock : ℕ) (es : List (LsaKey × Stored)) (due after : List AgeDue) (k : LsaKey) (s : Stored) → clock < 65536 → AreDue clock es due → Forgets clock due after → stored_of es k ≡ Some s → IsStored clock (k, s)
    → has_due after (record { moment = then_at clock; age = 3600; key = k }) ≡ true → Passes clock due after k s (timer_stopped s)
unfolding age_at
passes_stopped clock es due after k s c are ops is was there =
    let at = (comes_only clock es due after k s 3600 c are ops is there).0 in
    let less : age_at clock s.timer < 3600 = omega arith in
    record {
      stored = (was.0, omega arith, λ e. refl);
      young = λ y. sym at;
      old = λ more. refl;
      held = held_young clock es due after k s (timer_stopped s) c are ops is less (sym at) refl;
    }

-- that of one that does not
passes_on : (clock : ℕ) (es : List (LsaKey × Stored)) (due after : List AgeDue) (k : LsaKey) (s : Stored) → clock < 65536 → AreDue clock es due → Forgets clock due after → stored_of es k ≡ Some s → IsStored clock (k, s)
    → has_due after (record { moment = then_at clock; age = 3600; key = k }) ≡ false → Passes clock due after k s s
passes_on clock es due after k s c are ops is was apart = elim (young_or_old (age_at clock s.timer)) [
  | inl less ↦
      let later = age_then clock s.timer c less in
      record {
        stored = (was.0, omega arith, λ e. absurd (not_yet (sym later ∙ e)));
        young = λ y. later;
        old = λ more. absurd (omega arith);
        held = held_young clock es due after k s s c are ops is less later refl;
      }
  | inr more ↦
      let timer : s.timer ≡ Expired = was.2 (full more was.1) in
      let stays = age_expired (then_at clock) s.timer timer in
      record {
        stored = (was.0, omega arith, λ e. timer);
        young = λ y. absurd (omega arith);
        old = λ m. stays;
        held = held_old clock es due after k s s c are ops is more was.1 stays refl;
      }
]
  where
    full : 3600 ≤ age_at clock s.timer → age_at clock s.timer ≤ 3600 → age_at clock s.timer ≡ 3600
    full more most = omega arith

    not_yet : age_at clock s.timer + 1 ≡ 3600 → ⊥
    not_yet at =
        let told : is_told (age_at clock s.timer + 1) ≡ true = ap is_told at in
        let e = comes_next clock es due after k s c are ops is told in
        let f : has_due after (record { moment = then_at clock; age = 3600; key = k }) ≡ true = subst (λ (n : ℕ). has_due after (record { moment = then_at clock; age = n; key = k }) ≡ true) at e in
        absurd (cc)

passes : (clock : ℕ) (es : List (LsaKey × Stored)) (due after : List AgeDue) (k : LsaKey) (s : Stored) → clock < 65536 → AreDue clock es due → Forgets clock due after → stored_of es k ≡ Some s → IsStored clock (k, s)
    → (b : Bool) → has_due after (record { moment = then_at clock; age = 3600; key = k }) ≡ b → Passes clock due after k s (passed b s)
passes clock es due after k s c are ops is was true there = passes_stopped clock es due after k s c are ops is was there
passes clock es due after k s c are ops is was false there = passes_on clock es due after k s c are ops is was there

-- the map a tick later
abbrev pub Looks : List LsaKey → List (LsaKey × Stored) → List (LsaKey × Stored) → Type 0
Looks keys es fs = (q : LsaKey) → stored_of fs q ≡ (if among keys q then option_map timer_stopped (stored_of es q) else stored_of es q)

looked : (b : Bool) (o : Option Stored) → (if b then option_map timer_stopped o else o) ≡ option_map (passed b) o
looked true o = refl
looked false None = refl
looked false (Some s) = refl

-- where an entry came from
was_stored : (b : Bool) (o : Option Stored) (t : Stored) → option_map (passed b) o ≡ Some t → (s : Stored) × (o ≡ Some s) × (passed b s ≡ t)
was_stored b None t is = absurd (cc)
was_stored b (Some s) t is = (s, refl, cc)

-- each entry a tick later
ticks_one : (clock : ℕ) (es fs : List (LsaKey × Stored)) (due after : List AgeDue) → AreKeptEntries clock es due → Forgets clock due after → Looks (keys_at (then_at clock) 3600 after) es fs
    → (k : LsaKey) (t : Stored) → stored_of fs k ≡ Some t → (s : Stored) × (stored_of es k ≡ Some s) × Passes clock due after k s t
ticks_one clock es fs due after kept ops looks k t is =
    let b = has_due after (record { moment = then_at clock; age = 3600; key = k }) in
    let now : option_map (passed b) (stored_of es k) ≡ Some t = sym (looked b (stored_of es k)) ∙ sym (ap (λ (x : Bool). if x then option_map timer_stopped (stored_of es k) else stored_of es k) (keys_at-among (then_at clock) 3600 after k)) ∙ sym (looks k) ∙ is in
    let from = was_stored b (stored_of es k) t now in
    let there : Passes clock due after k from.0 (passed b from.0) = passes clock es due after k from.0 kept.on_ring kept.are_due ops from.1 (stored_one clock es kept.stored k from.0 from.1) b refl in
    (from.0, from.1, subst (λ (x : Stored). Passes clock due after k from.0 x) from.2 there)

ticks_put : (clock : ℕ) (es fs : List (LsaKey × Stored)) (due after : List AgeDue) → Looks (keys_at (then_at clock) 3600 after) es fs → (k : LsaKey) → stored_of fs k ≡ option_map (passed (has_due after (record { moment = then_at clock; age = 3600; key = k }))) (stored_of es k)
ticks_put clock es fs due after looks k =
    looks k ∙ ap (λ (x : Bool). if x then option_map timer_stopped (stored_of es k) else stored_of es k) (keys_at-among (then_at clock) 3600 after k) ∙ looked (has_due after (record { moment = then_at clock; age = 3600; key = k })) (stored_of es k)

most_told : (n : ℕ) → is_told n ≡ true → n ≤ 3600
most_told n told = elim (told_cases n told) [ inl a ↦ omega arith | inr b ↦ omega arith ]

age_some : (clock : ℕ) (es : List (LsaKey × Stored)) (k : LsaKey) (s : Stored) (n : ℕ) → stored_of es k ≡ Some s → age_at clock s.timer ≡ n → age_of clock es k ≡ Some n
age_some clock es k s n is aged = ap (λ (o : Option Stored). option_map (λ s. age_at clock s.timer) o) is ∙ ap (λ (x : ℕ). Some x) aged

-- what is due after a tick is still to come of the entries
due_sound : (clock : ℕ) (es fs : List (LsaKey × Stored)) (due after : List AgeDue) → AreKeptEntries clock es due → Forgets clock due after → Looks (keys_at (then_at clock) 3600 after) es fs
    → (d : AgeDue) → has_due after d ≡ true → ComesToAge (then_at clock) (age_of (then_at clock) fs d.key) d
due_sound clock es fs due after kept ops looks d there =
    let left = left_of clock es due after kept.on_ring kept.are_due ops d there in
    let comes = kept.are_due.sound d left.0 in
    let found = stored_aged clock comes.age es d.key comes.is in
    let s = found.0 in
    let b = has_due after (record { moment = then_at clock; age = 3600; key = d.key }) in
    let most = most_told d.age comes.told in
    let young : age_at clock s.timer < 3600 = omega (arith, found.2, comes.then_is, left.1) in
    let one = passes clock es due after d.key s kept.on_ring kept.are_due ops found.1 (stored_one clock es kept.stored d.key s found.1) b refl in
    let is : stored_of fs d.key ≡ Some (passed b s) = ticks_put clock es fs due after looks d.key ∙ ap (λ (o : Option Stored). option_map (passed b) o) found.1 in
    let nearer = ahead-tick clock d.moment kept.on_ring left.1 in
    record {
      told = comes.told;
      within = comes.within;
      age = age_at clock s.timer + 1;
      is = age_some (then_at clock) fs d.key (passed b s) (age_at clock s.timer + 1) is (one.young young);
      then_is = omega (arith, found.2, comes.then_is);
    }

-- and nothing is left out
due_whole : (clock : ℕ) (es fs : List (LsaKey × Stored)) (due after : List AgeDue) → AreKeptEntries clock es due → Forgets clock due after → Looks (keys_at (then_at clock) 3600 after) es fs
    → (d : AgeDue) → 0 < ahead (then_at clock) d.moment → ComesToAge (then_at clock) (age_of (then_at clock) fs d.key) d → has_due after d ≡ true
due_whole clock es fs due after kept ops looks d far comes =
    let found = stored_aged (then_at clock) comes.age fs d.key comes.is in
    let from = ticks_one clock es fs due after kept ops looks d.key found.0 found.1 in
    let s = from.0 in
    let most = most_told d.age comes.told in
    elim (young_or_old (age_at clock s.timer)) [
      | inl less ↦
          let aged = from.2.young less in
          let still : 0 < ahead clock d.moment = elim (some_or_none (ahead clock d.moment)) [
            | inl none ↦
                let now = ahead-none clock d.moment kept.on_ring comes.within none in
                let round : ahead (then_at clock) d.moment ≡ 65535 = ap (λ (m : ℕ). ahead (then_at clock) m) now ∙ ahead-past clock kept.on_ring in
                absurd (omega (arith, comes.then_is))
            | inr some ↦ some
          ] in
          let nearer = ahead-tick clock d.moment kept.on_ring still in
          left_whole clock due after kept.on_ring ops d (kept.are_due.whole d still (record {
            told = comes.told;
            within = comes.within;
            age = age_at clock s.timer;
            is = age_some clock es d.key s (age_at clock s.timer) from.1 refl;
            then_is = omega (arith, found.2, comes.then_is);
          })) still
      | inr more ↦
          let aged = from.2.old more in
          absurd (omega (arith, found.2, comes.then_is))
    ]

-- a tick keeps what is kept
pub ticks_kept : (clock : ℕ) (m n : BTreeMap LsaKey Stored) (due after : List AgeDue) → AreKeptEntries clock m.entries due → tree.IsOrdered key_cmp n → Forgets clock due after → Looks (keys_at (then_at clock) 3600 after) m.entries n.entries
    → AreKeptEntries (then_at clock) n.entries after
ticks_kept clock m n due after kept ordered ops looks = record {
  on_ring = omega arith;
  stored = all_stored (IsStored (then_at clock)) n ordered (λ k t is. (ticks_one clock m.entries n.entries due after kept ops looks k t is).2.stored);
  rising = rising_from-sorted (keys_of n.entries) ordered;
  are_due = record {
    sound = due_sound clock m.entries n.entries due after kept ops looks;
    whole = due_whole clock m.entries n.entries due after kept ops looks;
  };
}

-- and makes each entry older
pub ticks_ages : (clock : ℕ) (es fs : List (LsaKey × Stored)) (due after : List AgeDue) → AreKeptEntries clock es due → AreKeptEntries (then_at clock) fs after → Forgets clock due after → Looks (keys_at (then_at clock) 3600 after) es fs
    → Ages (map (held_at clock due) es) (map (held_at (then_at clock) after) fs)
ticks_ages clock es fs due after kept kept_after ops looks k =
    held_of-stored (then_at clock) after fs kept_after.stored k
    ∙ ap (λ (o : Option Stored). option_map (λ s. held_at (then_at clock) after (k, s)) o) (ticks_put clock es fs due after looks k)
    ∙ each (stored_of es k) refl
    ∙ sym (ap (λ (o : Option Held). option_map older o) (held_of-stored clock due es kept.stored k))
  where
    each : (o : Option Stored) → stored_of es k ≡ o → option_map (λ s. held_at (then_at clock) after (k, s)) (option_map (passed (has_due after (record { moment = then_at clock; age = 3600; key = k }))) o) ≡ option_map older (option_map (λ s. held_at clock due (k, s)) o)
    each None is = refl
    each (Some s) is = ap (λ (h : Held). Some h) (passes clock es due after k s kept.on_ring kept.are_due ops is (stored_one clock es kept.stored k s is) (has_due after (record { moment = then_at clock; age = 3600; key = k })) refl).held

-- the looks are as many as the entries that come to MaxAge
pub ticks_looks : (clock : ℕ) (fs : List (LsaKey × Stored)) (after : List AgeDue) → AreKeptEntries (then_at clock) fs after → IsStrictlySortedBy due_cmp after
    → length (keys_at (then_at clock) 3600 after) ≡ length (reached_at 3600 (map (held_at (then_at clock) after) fs))
ticks_looks clock fs after kept sorted = ap length (keys_at-reached (then_at clock) 3600 fs after kept.on_ring kept sorted)
