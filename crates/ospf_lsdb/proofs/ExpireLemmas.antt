-- One entry of a database by moments changes.
use Rattle.std.proofs.Common.{◌≡◌, ◌<◌, ◌≤◌, ◌==◌, ◌&&◌, ◌||◌, not, inl, inr, ◌+◌, ◌-◌, ◌%◌, nat_lt, ℕ, Bool, true, false, List, map, Option, Some, None, option_map, refl, ap, sym, ◌∙◌, subst, arith, BTreeMap, if◌then◌else◌}
use Rattle.std.proofs.lemmas.Grind.{common_steps}
use Rattle.std.specs.Map.{keys_of}
use Rattle.std.specs.BTreeMap as tree
use Rattle.ospf_base.specs.declared.ids.LsaKey.{LsaKey}
use Rattle.ospf_lsdb.specs.Database.{Held, held_of, is_told, expired, Puts}
use Rattle.ospf_base.specs.Keys.{same_key, key_cmp}
use Rattle.ospf_lsdb.specs.declared.moments.AgeDue.{AgeDue}
use Rattle.ospf_lsdb.specs.declared.dated.Stored.{Stored}
use Rattle.ospf_lsdb.specs.Moments.{ahead, has_due, same_due, is_coming}
use Rattle.ospf_lsdb.specs.Timers.{age_at, held_at, stored_of, age_of, ComesToAge, AreDue, IsStored, AreKeptEntries, timer_stopped}
use Rattle.ospf_lsdb.proofs.EntryLemmas.{expired-young}
use Rattle.ospf_lsdb.proofs.MapLemmas.{bool_cases, Puts-words}
use Rattle.ospf_base.proofs.SameKeys.{same_key-eq}
use Rattle.ospf_lsdb.proofs.MomentLemmas.{same_due-refl}
use Rattle.ospf_lsdb.proofs.TimerLemmas.{all_stored, stored_one, rising_from-sorted, AreDue-put, Puts-stored, held_of-stored, comes_to}

-- a map that changed at one key, and what is due with it
pub IsKept-put : (clock : ℕ) (key : LsaKey) (o : Option Stored) (m n : BTreeMap LsaKey Stored) (due after : List AgeDue) → AreKeptEntries clock m.entries due → tree.IsOrdered key_cmp n
    → ((q : LsaKey) → stored_of n.entries q ≡ (if same_key key q then o else stored_of m.entries q))
    → ((s : Stored) → o ≡ Some s → IsStored clock (key, s)) → AreDue clock n.entries after → AreKeptEntries clock n.entries after
IsKept-put clock key o m n due after kept ordered put fits are_due = record {
  on_ring = kept.on_ring;
  stored = all_stored (IsStored clock) n ordered (λ k s is. elim (bool_cases (same_key key k)) [
    | inl one ↦
        let e = same_key-eq key k one in
        let at : stored_of n.entries k ≡ o = put k ∙ (rw one refl) in
        subst (λ (q : LsaKey). IsStored clock (q, s)) e (fits s (sym at ∙ is))
    | inr two ↦
        let at : stored_of n.entries k ≡ stored_of m.entries k = put k ∙ (rw two refl) in
        stored_one clock m.entries kept.stored k s (sym at ∙ is)
  ]);
  rising = rising_from-sorted (keys_of n.entries) ordered;
  are_due = are_due;
}

and_false : (a : Bool) → a && false ≡ false
and_false true = refl
and_false false = refl

pub due_apart : (m a : ℕ) (key : LsaKey) (d : AgeDue) → same_key key d.key ≡ false → same_due (record { moment = m; age = a; key = key }) d ≡ false
unfolding same_due
due_apart m a key d apart = rw apart (ap (λ (b : Bool). (m == d.moment) && b) (and_false (a == d.age)) ∙ and_false (m == d.moment))

pub coming_apart : (clock age : ℕ) (key : LsaKey) (d : AgeDue) → same_key key d.key ≡ false → is_coming clock age key d ≡ false
unfolding is_coming
coming_apart clock age key d apart =
    let x = due_apart ((clock + (1800 - age)) % 65536) 1800 key d apart in
    let y = due_apart ((clock + (3600 - age)) % 65536) 3600 key d apart in
    rw (x, y) (neither (nat_lt age 1800) (nat_lt age 3600))
  where
    neither : (a b : Bool) → (a && false) || (b && false) ≡ false
    neither true true = refl
    neither true false = refl
    neither false true = refl
    neither false false = refl

pub parted : (a b h : Bool) → not a && (not b && h) ≡ true → (a ≡ false) × (b ≡ false) × (h ≡ true)
parted true b h is = absurd (cc)
parted false true h is = absurd (cc)
parted false false h is = (refl, refl, is)

-- nothing is left of what an entry came and comes to
pub none_left : (clock age : ℕ) (key : LsaKey) (es : List (LsaKey × Stored)) (due after : List AgeDue) → clock < 65536 → AreDue clock es due → age_of clock es key ≡ Some age
    → ((q : AgeDue) → has_due after q ≡ (not (is_coming clock age key q) && (not (same_due (record { moment = clock; age = age; key = key }) q) && has_due due q)))
    → (d : AgeDue) → d.key ≡ key → has_due after d ≡ true → ⊥
none_left clock age key es due after c are age_is ops d k there =
    let p = parted (is_coming clock age key d) (same_due (record { moment = clock; age = age; key = key }) d) (has_due due d) (sym (ops d) ∙ there) in
    let at : age_of clock es d.key ≡ Some age = subst (λ (q : LsaKey). age_of clock es q ≡ Some age) (sym k) age_is in
    let comes : ComesToAge clock (Some age) d = subst (λ (o : Option ℕ). ComesToAge clock o d) at (are.sound d p.2) in
    elim (comes_to clock age d c comes) [
      | inl now ↦
          let same : d ≡ record { moment = clock; age = age; key = key } = now ∙ ap (λ (q : LsaKey). record { moment = clock; age = age; key = q }) k in
          let sure : same_due (record { moment = clock; age = age; key = key }) d ≡ true = subst (λ (x : AgeDue). same_due x d ≡ true) same (same_due-refl d) in
          absurd (let f = p.1 in cc)
      | inr later ↦
          let sure : is_coming clock age key d ≡ true = subst (λ (q : LsaKey). is_coming clock age q d ≡ true) k later in
          absurd (let f = p.0 in cc)
    ]

-- and nothing else is touched
pub others_stay : (clock age : ℕ) (key : LsaKey) (due after : List AgeDue)
    → ((q : AgeDue) → has_due after q ≡ (not (is_coming clock age key q) && (not (same_due (record { moment = clock; age = age; key = key }) q) && has_due due q)))
    → (d : AgeDue) → same_key key d.key ≡ false → has_due after d ≡ has_due due d
others_stay clock age key due after ops d apart =
    let x = coming_apart clock age key d apart in
    let y = due_apart clock age key d apart in
    ops d ∙ (rw (x, y) refl)

no_more : (clock : ℕ) (d : AgeDue) → 0 < ahead clock d.moment → ComesToAge clock (Some 3600) d → ⊥
no_more clock d far comes =
    let same : 3600 ≡ comes.age = some_is 3600 comes.age comes.is in
    let told : d.age ≤ 3600 = at_most d.age comes.told in
    omega (arith, comes.then_is)
  where
    some_is : (a b : ℕ) → Some a ≡ Some b → a ≡ b
    some_is a b is = cc

    at_most : (n : ℕ) → is_told n ≡ true → n ≤ 3600
    at_most n is = grind (arith, common_steps)

-- what is due once an entry has come to MaxAge before its time
pub AreDue-expired : (clock age : ℕ) (key : LsaKey) (es fs : List (LsaKey × Stored)) (due after : List AgeDue) → clock < 65536 → AreDue clock es due → age_of clock es key ≡ Some age
    → ((q : LsaKey) → age_of clock fs q ≡ (if same_key key q then Some 3600 else age_of clock es q))
    → ((q : AgeDue) → has_due after q ≡ (not (is_coming clock age key q) && (not (same_due (record { moment = clock; age = age; key = key }) q) && has_due due q)))
    → AreDue clock fs after
AreDue-expired clock age key es fs due after c are age_is ages ops =
    AreDue-put clock key (Some 3600) es fs due after are ages (others_stay clock age key due after ops)
    (λ d k there. absurd (none_left clock age key es due after c are age_is ops d k there))
    (λ d k far comes. absurd (no_more clock d far comes))

-- the entry of a key that has an age
pub stored_aged : (clock age : ℕ) (es : List (LsaKey × Stored)) (key : LsaKey) → age_of clock es key ≡ Some age → (s : Stored) × (stored_of es key ≡ Some s) × (age_at clock s.timer ≡ age)
stored_aged clock age es key is = found (stored_of es key) refl is
  where
    found : (o : Option Stored) → stored_of es key ≡ o → option_map (λ s. age_at clock s.timer) o ≡ Some age → (s : Stored) × (stored_of es key ≡ Some s) × (age_at clock s.timer ≡ age)
    found None at none = absurd (cc)
    found (Some s) at some = (s, at, cc)

pub unaged : (clock : ℕ) (es : List (LsaKey × Stored)) (key : LsaKey) → age_of clock es key ≡ None → stored_of es key ≡ None
unaged clock es key is = found (stored_of es key) refl is
  where
    found : (o : Option Stored) → stored_of es key ≡ o → option_map (λ s. age_at clock s.timer) o ≡ None → stored_of es key ≡ None
    found None at none = at
    found (Some s) at some = absurd (cc)

-- what stopped entries are of age
stopped_age : (clock : ℕ) (s : Stored) → age_at clock (timer_stopped s).timer ≡ 3600
unfolding age_at
stopped_age clock s = refl

pub ages_put : (clock : ℕ) (key : LsaKey) (o : Option Stored) (es fs : List (LsaKey × Stored)) → ((q : LsaKey) → stored_of fs q ≡ (if same_key key q then o else stored_of es q))
    → (q : LsaKey) → age_of clock fs q ≡ (if same_key key q then option_map (λ s. age_at clock s.timer) o else age_of clock es q)
ages_put clock key o es fs put q = ap (λ (x : Option Stored). option_map (λ s. age_at clock s.timer) x) (put q) ∙ elim (bool_cases (same_key key q)) [ inl one ↦ rw one refl | inr two ↦ rw two refl ]

stopped_all : (key : LsaKey) (s : Stored) (es fs : List (LsaKey × Stored)) → stored_of es key ≡ Some s → ((q : LsaKey) → stored_of fs q ≡ (if same_key key q then option_map timer_stopped (stored_of es q) else stored_of es q))
    → (q : LsaKey) → stored_of fs q ≡ (if same_key key q then Some (timer_stopped s) else stored_of es q)
stopped_all key s es fs was put q = put q ∙ elim (bool_cases (same_key key q)) [
  | inl one ↦
      let e = same_key-eq key q one in
      let at : stored_of es q ≡ Some s = subst (λ (k : LsaKey). stored_of es k ≡ Some s) e was in
      rw (one, at) refl
  | inr two ↦ rw two refl
]

-- an entry expires before its time
pub expires_kept : (clock age : ℕ) (key : LsaKey) (m n : BTreeMap LsaKey Stored) (due after : List AgeDue) → AreKeptEntries clock m.entries due → tree.IsOrdered key_cmp n → age_of clock m.entries key ≡ Some age
    → ((q : LsaKey) → stored_of n.entries q ≡ (if same_key key q then option_map timer_stopped (stored_of m.entries q) else stored_of m.entries q))
    → ((q : AgeDue) → has_due after q ≡ (not (is_coming clock age key q) && (not (same_due (record { moment = clock; age = age; key = key }) q) && has_due due q)))
    → AreKeptEntries clock n.entries after
expires_kept clock age key m n due after kept ordered age_is put ops =
    let found = stored_aged clock age m.entries key age_is in
    let s = found.0 in
    let all = stopped_all key s m.entries n.entries found.1 put in
    let one = stored_one clock m.entries kept.stored key s found.1 in
    let three : age_at clock (timer_stopped s).timer ≡ 3600 = stopped_age clock s in
    IsKept-put clock key (Some (timer_stopped s)) m n due after kept ordered all
    (λ t is. subst (λ (x : Stored). IsStored clock (key, x)) (stored_is (timer_stopped s) t is) (one.0, omega arith, λ e. refl))
    (AreDue-expired clock age key m.entries n.entries due after kept.on_ring kept.are_due age_is
    (λ q. ages_put clock key (Some (timer_stopped s)) m.entries n.entries all q ∙ ap (λ (x : ℕ). if same_key key q then Some x else age_of clock m.entries q) three) ops)
  where
    stored_is : (a b : Stored) → Some a ≡ Some b → a ≡ b
    stored_is a b is = cc

abbrev pub held_made : ℕ → List ℕ → ℕ → Bool → Bool → Held
held_made a c t f r = record { entry = record { age = a; contents = c; tick = t; by_flooding = f }; reached = r }

held_same : (a b : ℕ) (c : List ℕ) (t : ℕ) (f r : Bool) → b ≡ a → r ≡ false → held_made b c t f r ≡ held_made a c t f false
held_same a b c t f r p q = ap (λ (n : ℕ). held_made n c t f r) p ∙ ap (λ (x : Bool). held_made a c t f x) q

pub expires_put : (clock age : ℕ) (key : LsaKey) (m n : BTreeMap LsaKey Stored) (due after : List AgeDue) → AreKeptEntries clock m.entries due → AreKeptEntries clock n.entries after → age < 3600 → age_of clock m.entries key ≡ Some age
    → ((q : LsaKey) → stored_of n.entries q ≡ (if same_key key q then option_map timer_stopped (stored_of m.entries q) else stored_of m.entries q))
    → ((q : AgeDue) → has_due after q ≡ (not (is_coming clock age key q) && (not (same_due (record { moment = clock; age = age; key = key }) q) && has_due due q)))
    → Puts key (option_map expired (held_of (map (held_at clock due) m.entries) key)) (map (held_at clock due) m.entries) (map (held_at clock after) n.entries)
expires_put clock age key m n due after kept kept_after young age_is put ops =
    let found = stored_aged clock age m.entries key age_is in
    let s = found.0 in
    let all = stopped_all key s m.entries n.entries found.1 put in
    let three : age_at clock (timer_stopped s).timer ≡ 3600 = stopped_age clock s in
    let quiet : has_due after (record { moment = clock; age = age_at clock (timer_stopped s).timer; key = key }) ≡ false = elim (bool_cases (has_due after (record { moment = clock; age = age_at clock (timer_stopped s).timer; key = key }))) [
      | inl there ↦ absurd (none_left clock age key m.entries due after kept.on_ring kept.are_due age_is ops (record { moment = clock; age = age_at clock (timer_stopped s).timer; key = key }) refl there)
      | inr two ↦ two
    ] in
    let now : held_at clock after (key, timer_stopped s) ≡ record { entry = record (held_at clock due (key, s)).entry { age = 3600 }; reached = false } =
    held_same 3600 (age_at clock (timer_stopped s).timer) s.lsa s.tick s.by_flooding (has_due after (record { moment = clock; age = age_at clock (timer_stopped s).timer; key = key })) three quiet in
    let less : (held_at clock due (key, s)).entry.age < 3600 = subst (λ (n : ℕ). n < 3600) (sym found.2) young in
    let was : held_of (map (held_at clock due) m.entries) key ≡ Some (held_at clock due (key, s)) = held_of-stored clock due m.entries kept.stored key ∙ ap (λ (o : Option Stored). option_map (λ t. held_at clock due (key, t)) o) found.1 in
    let same : Some (held_at clock after (key, timer_stopped s)) ≡ option_map expired (held_of (map (held_at clock due) m.entries) key) =
    ap (λ (h : Held). Some h) (now ∙ sym (expired-young (held_at clock due (key, s)) less)) ∙ sym (ap (λ (o : Option Held). option_map expired o) was) in
    Puts-words key (Some (held_at clock after (key, timer_stopped s))) (option_map expired (held_of (map (held_at clock due) m.entries) key)) (map (held_at clock due) m.entries) (map (held_at clock due) m.entries) (map (held_at clock after) n.entries) same refl
    (Puts-stored clock key (Some (timer_stopped s)) m.entries n.entries due after kept.stored kept_after.stored all (others_stay clock age key due after ops))

-- the entry of a key, as the database has it
pub held_aged : (clock age : ℕ) (es : List (LsaKey × Stored)) (due : List AgeDue) (key : LsaKey) → AreKeptEntries clock es due → age_of clock es key ≡ Some age
    → (h : Held) × (held_of (map (held_at clock due) es) key ≡ Some h) × (h.entry.age ≡ age) × (age ≤ 3600)
held_aged clock age es due key kept is =
    let found = stored_aged clock age es key is in
    let s = found.0 in
    let one = stored_one clock es kept.stored key s found.1 in (
      held_at clock due (key, s),
      held_of-stored clock due es kept.stored key ∙ ap (λ (o : Option Stored). option_map (λ t. held_at clock due (key, t)) o) found.1,
      found.2,
      subst (λ (n : ℕ). n ≤ 3600) found.2 one.1,
    )

pub held_none : (clock : ℕ) (es : List (LsaKey × Stored)) (due : List AgeDue) (key : LsaKey) → AreKeptEntries clock es due → age_of clock es key ≡ None → held_of (map (held_at clock due) es) key ≡ None
held_none clock es due key kept is = held_of-stored clock due es kept.stored key ∙ ap (λ (o : Option Stored). option_map (λ t. held_at clock due (key, t)) o) (unaged clock es key is)

pub fresh_not : (h : Held) → 3600 ≤ h.entry.age → nat_lt h.entry.age 3600 ≡ false
fresh_not h old = grind arith

-- ---- an entry of MaxAge is taken out

no_coming : (clock : ℕ) (key : LsaKey) (d : AgeDue) → is_coming clock 3600 key d ≡ false
unfolding is_coming
no_coming clock key d = refl

with_none : (clock : ℕ) (key : LsaKey) (due after : List AgeDue) → ((q : AgeDue) → has_due after q ≡ (not (same_due (record { moment = clock; age = 3600; key = key }) q) && has_due due q))
    → (q : AgeDue) → has_due after q ≡ (not (is_coming clock 3600 key q) && (not (same_due (record { moment = clock; age = 3600; key = key }) q) && has_due due q))
with_none clock key due after ops q = let no_more = no_coming clock key q in ops q ∙ sym (rw no_more refl)

pub removes_kept : (clock : ℕ) (key : LsaKey) (m n : BTreeMap LsaKey Stored) (due after : List AgeDue) → AreKeptEntries clock m.entries due → tree.IsOrdered key_cmp n → age_of clock m.entries key ≡ Some 3600
    → ((q : LsaKey) → stored_of n.entries q ≡ (if same_key key q then None else stored_of m.entries q))
    → ((q : AgeDue) → has_due after q ≡ (not (same_due (record { moment = clock; age = 3600; key = key }) q) && has_due due q))
    → AreKeptEntries clock n.entries after
removes_kept clock key m n due after kept ordered age_is put ops =
    let all = with_none clock key due after ops in
    IsKept-put clock key None m n due after kept ordered put (λ t is. absurd (cc))
    (AreDue-put clock key None m.entries n.entries due after kept.are_due (ages_put clock key None m.entries n.entries put) (others_stay clock 3600 key due after all)
    (λ d k there. absurd (none_left clock 3600 key m.entries due after kept.on_ring kept.are_due age_is all d k there))
    (λ d k far comes. absurd (let e = comes.is in cc)))

pub removes_put : (clock : ℕ) (key : LsaKey) (m n : BTreeMap LsaKey Stored) (due after : List AgeDue) → AreKeptEntries clock m.entries due → AreKeptEntries clock n.entries after → age_of clock m.entries key ≡ Some 3600
    → ((q : LsaKey) → stored_of n.entries q ≡ (if same_key key q then None else stored_of m.entries q))
    → ((q : AgeDue) → has_due after q ≡ (not (same_due (record { moment = clock; age = 3600; key = key }) q) && has_due due q))
    → Puts key None (map (held_at clock due) m.entries) (map (held_at clock after) n.entries)
removes_put clock key m n due after kept kept_after age_is put ops =
    Puts-stored clock key None m.entries n.entries due after kept.stored kept_after.stored put (others_stay clock 3600 key due after (with_none clock key due after ops))
