-- An LSA is put in a database by moments.
use Rattle.std.proofs.Common.{◌≡◌, ◌<◌, ◌≤◌, ◌&&◌, ◌||◌, not, inl, inr, ℕ, Bool, true, false, List, [], ◌∷◌, map, Option, Some, None, refl, ap, sym, ◌∙◌, subst, arith, BTreeMap, if◌then◌else◌}
use Rattle.std.specs.BTreeMap as tree
use Rattle.ospf_base.specs.Sums as sums
use Rattle.ospf_base.specs.declared.ids.LsaKey.{LsaKey}
use Rattle.ospf_lsa.specs.Header.{header_of}
use Rattle.ospf_lsdb.specs.Database.{Held, key_in, entry_from, Puts, Installs}
use Rattle.ospf_base.specs.Keys.{same_key, key_cmp}
use Rattle.ospf_lsdb.specs.declared.moments.AgeDue.{AgeDue}
use Rattle.ospf_lsdb.specs.declared.dated.Stored.{Stored}
use Rattle.ospf_lsdb.specs.declared.dated.Timer.{Timer}
use Rattle.ospf_lsdb.specs.declared.dated.Timer.TheVariants.{Expired}
use Rattle.ospf_lsdb.specs.Moments.{ahead, has_due, same_due, is_coming}
use Rattle.ospf_lsdb.specs.Timers.{age_at, held_at, stored_of, age_of, ComesToAge, AreDue, IsStored, AreKeptEntries}
use Rattle.ospf_lsdb.proofs.MapLemmas.{bool_cases}
use Rattle.ospf_lsdb.proofs.MomentLemmas.{same_due-eq, same_due-refl}
use Rattle.ospf_lsdb.proofs.RingLemmas.{ahead-now}
use Rattle.ospf_lsdb.proofs.TimerLemmas.{bool_or, comes_to, coming_is, AreDue-put, Puts-stored}
use Rattle.ospf_lsdb.proofs.ExpireLemmas.{IsKept-put, due_apart, coming_apart, ages_put, parted, held_made}

-- what is due once the entry of a key has a new age: what it comes to, and nothing that it came to
pub record Replaces (clock : ℕ) (age : ℕ) (key : LsaKey) (due after : List AgeDue) : Type 0 where
  pub others : (d : AgeDue) → same_key key d.key ≡ false → has_due after d ≡ has_due due d
  pub sound : (d : AgeDue) → d.key ≡ key → has_due after d ≡ true → ComesToAge clock (Some age) d
  pub whole : (d : AgeDue) → d.key ≡ key → 0 < ahead clock d.moment → ComesToAge clock (Some age) d → has_due after d ≡ true
  pub quiet : has_due after (record { moment = clock; age = age; key = key }) ≡ false

-- nothing that is to come is now
not_now : (clock moment : ℕ) → clock < 65536 → moment ≡ clock → 0 < ahead clock moment → ⊥
not_now clock moment c is far =
    let none : ahead clock moment ≡ 0 = ap (λ (m : ℕ). ahead clock m) is ∙ ahead-now clock c in
    omega arith

none_coming : (clock age : ℕ) (key : LsaKey) (a : ℕ) (k : LsaKey) → clock < 65536 → is_coming clock age key (record { moment = clock; age = a; key = k }) ≡ false
none_coming clock age key a k c = elim (bool_cases (is_coming clock age key (record { moment = clock; age = a; key = k }))) [
  | inl one ↦ absurd (not_now clock clock c refl (coming_is clock age key (record { moment = clock; age = a; key = k }) c one).2)
  | inr two ↦ two
]

coming_far : (clock age : ℕ) (key : LsaKey) (d : AgeDue) → clock < 65536 → d.key ≡ key → 0 < ahead clock d.moment → ComesToAge clock (Some age) d → is_coming clock age key d ≡ true
coming_far clock age key d c k far comes = elim (comes_to clock age d c comes) [
  | inl now ↦ absurd (not_now clock d.moment c (ap (λ (x : AgeDue). x.moment) now) far)
  | inr later ↦ subst (λ (q : LsaKey). is_coming clock age q d ≡ true) k later
]

far_apart : (clock age : ℕ) (key : LsaKey) (d : AgeDue) → clock < 65536 → 0 < ahead clock d.moment → same_due (record { moment = clock; age = age; key = key }) d ≡ false
far_apart clock age key d c far = elim (bool_cases (same_due (record { moment = clock; age = age; key = key }) d)) [
  | inl one ↦ absurd (not_now clock d.moment c (sym (ap (λ (x : AgeDue). x.moment) (same_due-eq (record { moment = clock; age = age; key = key }) d one))) far)
  | inr two ↦ two
]

comes_of : (clock : ℕ) (key : LsaKey) (o : Option ℕ) (es : List (LsaKey × Stored)) (due : List AgeDue) → AreDue clock es due → age_of clock es key ≡ o → (d : AgeDue) → d.key ≡ key → has_due due d ≡ true → ComesToAge clock o d
comes_of clock key o es due are is d k there =
    let at : age_of clock es d.key ≡ o = subst (λ (q : LsaKey). age_of clock es q ≡ o) (sym k) is in
    subst (λ (x : Option ℕ). ComesToAge clock x d) at (are.sound d there)

comes_none : (clock : ℕ) (d : AgeDue) → ComesToAge clock None d → ⊥
comes_none clock d comes = absurd (let e = comes.is in cc)

some_is : (a b : ℕ) → Some a ≡ Some b → a ≡ b
some_is a b is = cc

same_ages : (clock a b : ℕ) (d : AgeDue) → ComesToAge clock (Some a) d → ComesToAge clock (Some b) d → a ≡ b
same_ages clock a b d one two =
    let p = some_is a one.age one.is in
    let q = some_is b two.age two.is in
    omega (arith, one.then_is, two.then_is)

-- there was no entry
pub replaces_none : (clock age : ℕ) (key : LsaKey) (es : List (LsaKey × Stored)) (due after : List AgeDue) → clock < 65536 → AreDue clock es due → age_of clock es key ≡ None
    → ((q : AgeDue) → has_due after q ≡ (is_coming clock age key q || has_due due q)) → Replaces clock age key due after
replaces_none clock age key es due after c are is ops = record {
  others = λ d apart. let x = coming_apart clock age key d apart in ops d ∙ (rw x refl);
  sound = λ d k there. elim (bool_or (is_coming clock age key d) (has_due due d) (sym (ops d) ∙ there)) [
    | inl one ↦ (coming_is clock age key d c one).1
    | inr two ↦ absurd (comes_none clock d (comes_of clock key None es due are is d k two))
  ];
  whole = λ d k far comes. let x = coming_far clock age key d c k far comes in ops d ∙ (rw x refl);
  quiet =
      let x = none_coming clock age key age key c in
      ops (record { moment = clock; age = age; key = key }) ∙ (rw x (elim (bool_cases (has_due due (record { moment = clock; age = age; key = key }))) [
        | inl one ↦ absurd (comes_none clock (record { moment = clock; age = age; key = key }) (comes_of clock key None es due are is (record { moment = clock; age = age; key = key }) refl one))
        | inr two ↦ two
      ]));
}

not_and : (a b : Bool) → not a && b ≡ true → (a ≡ false) × (b ≡ true)
not_and true b is = absurd (cc)
not_and false b is = (refl, is)

-- the entry that there was is of the same age
pub replaces_same : (clock old age : ℕ) (key : LsaKey) (es : List (LsaKey × Stored)) (due after : List AgeDue) → clock < 65536 → AreDue clock es due → age_of clock es key ≡ Some old → old ≡ age
    → ((q : AgeDue) → has_due after q ≡ (not (same_due (record { moment = clock; age = old; key = key }) q) && (is_coming clock age key q || has_due due q))) → Replaces clock age key due after
replaces_same clock old age key es due after c are is same ops = record {
  others = λ d apart. let x = coming_apart clock age key d apart in let y = due_apart clock old key d apart in ops d ∙ (rw (x, y) refl);
  sound = λ d k there.
      let p = not_and (same_due (record { moment = clock; age = old; key = key }) d) (is_coming clock age key d || has_due due d) (sym (ops d) ∙ there) in
      elim (bool_or (is_coming clock age key d) (has_due due d) p.1) [
        | inl one ↦ (coming_is clock age key d c one).1
        | inr two ↦ comes_of clock key (Some age) es due are (is ∙ ap (λ (n : ℕ). Some n) same) d k two
      ];
  whole = λ d k far comes. let x = coming_far clock age key d c k far comes in let y = far_apart clock old key d c far in ops d ∙ (rw (x, y) refl);
  quiet =
      let x : same_due (record { moment = clock; age = old; key = key }) (record { moment = clock; age = age; key = key }) ≡ true = subst (λ (n : ℕ). same_due (record { moment = clock; age = old; key = key }) (record { moment = clock; age = n; key = key }) ≡ true) same (same_due-refl (record { moment = clock; age = old; key = key })) in
      ops (record { moment = clock; age = age; key = key }) ∙ (rw x refl);
}

-- the entry that there was is of another age
pub replaces_other : (clock old age : ℕ) (key : LsaKey) (es : List (LsaKey × Stored)) (due after : List AgeDue) → clock < 65536 → AreDue clock es due → age_of clock es key ≡ Some old → (old ≡ age → ⊥)
    → ((q : AgeDue) → has_due after q ≡ (not (is_coming clock old key q) && (not (same_due (record { moment = clock; age = old; key = key }) q) && (is_coming clock age key q || has_due due q)))) → Replaces clock age key due after
replaces_other clock old age key es due after c are is differ ops = record {
  others = λ d apart. let w = coming_apart clock old key d apart in let x = coming_apart clock age key d apart in let y = due_apart clock old key d apart in ops d ∙ (rw (w, x, y) refl);
  sound = λ d k there.
      let p = parted (is_coming clock old key d) (same_due (record { moment = clock; age = old; key = key }) d) (is_coming clock age key d || has_due due d) (sym (ops d) ∙ there) in
      elim (bool_or (is_coming clock age key d) (has_due due d) p.2) [
        | inl one ↦ (coming_is clock age key d c one).1
        | inr two ↦ absurd (left d k two p.0 p.1)
      ];
  whole = λ d k far comes.
      let x = coming_far clock age key d c k far comes in
      let y = far_apart clock old key d c far in
      let w : is_coming clock old key d ≡ false = elim (bool_cases (is_coming clock old key d)) [
        | inl one ↦ absurd (differ (same_ages clock old age d (coming_is clock old key d c one).1 comes))
        | inr two ↦ two
      ] in
      ops d ∙ (rw (w, x, y) refl);
  quiet = elim (bool_cases (has_due after (record { moment = clock; age = age; key = key }))) [
    | inl one ↦
        let p = parted (is_coming clock old key (record { moment = clock; age = age; key = key })) (same_due (record { moment = clock; age = old; key = key }) (record { moment = clock; age = age; key = key })) (is_coming clock age key (record { moment = clock; age = age; key = key }) || has_due due (record { moment = clock; age = age; key = key })) (sym (ops (record { moment = clock; age = age; key = key })) ∙ one) in
        elim (bool_or (is_coming clock age key (record { moment = clock; age = age; key = key })) (has_due due (record { moment = clock; age = age; key = key })) p.2) [
          | inl now ↦ absurd (let e = none_coming clock age key age key c in cc)
          | inr there ↦ absurd (left (record { moment = clock; age = age; key = key }) refl there p.0 p.1)
        ]
    | inr two ↦ two
  ];
}
  where
    left : (d : AgeDue) → d.key ≡ key → has_due due d ≡ true → is_coming clock old key d ≡ false → same_due (record { moment = clock; age = old; key = key }) d ≡ false → ⊥
    left d k there not_coming apart = elim (comes_to clock old d c (comes_of clock key (Some old) es due are is d k there)) [
      | inl now ↦
          let same : d ≡ record { moment = clock; age = old; key = key } = now ∙ ap (λ (q : LsaKey). record { moment = clock; age = old; key = q }) k in
          let sure : same_due (record { moment = clock; age = old; key = key }) d ≡ true = subst (λ (x : AgeDue). same_due x d ≡ true) same (same_due-refl d) in
          absurd (cc)
      | inr later ↦
          let sure : is_coming clock old key d ≡ true = subst (λ (q : LsaKey). is_coming clock old q d ≡ true) k later in
          absurd (cc)
    ]

-- what is kept of an install
pub installs_kept : (clock age : ℕ) (key : LsaKey) (s : Stored) (m n : BTreeMap LsaKey Stored) (due after : List AgeDue) → AreKeptEntries clock m.entries due → tree.IsOrdered key_cmp n
    → ((q : LsaKey) → stored_of n.entries q ≡ (if same_key key q then Some s else stored_of m.entries q))
    → key_in s.lsa ≡ key → age_at clock s.timer ≡ age → (age ≡ 3600 → s.timer ≡ Expired) → age ≤ 3600 → Replaces clock age key due after → AreKeptEntries clock n.entries after
installs_kept clock age key s m n due after kept ordered put named aged timed fits replaces =
    IsKept-put clock key (Some s) m n due after kept ordered put
    (λ t is. subst (λ (x : Stored). IsStored clock (key, x)) (stored_is s t is) (named, omega arith, λ e. timed (sym aged ∙ e)))
    (AreDue-put clock key (Some age) m.entries n.entries due after kept.are_due
    (λ q. ages_put clock key (Some s) m.entries n.entries put q ∙ ap (λ (x : ℕ). if same_key key q then Some x else age_of clock m.entries q) aged) replaces.others replaces.sound replaces.whole)
  where
    stored_is : (a b : Stored) → Some a ≡ Some b → a ≡ b
    stored_is a b is = cc

-- an entry as it begins
held_new : (clock age : ℕ) (key : LsaKey) (lsa : List ℕ) (timer : Timer) (tick : ℕ) (by_flooding : Bool) (after : List AgeDue) → age_at clock timer ≡ age → age ≡ (header_of lsa).age → has_due after (record { moment = clock; age = age; key = key }) ≡ false
    → held_at clock after (key, record { lsa = sums.contents lsa; timer = timer; tick = tick; by_flooding = by_flooding }) ≡ record { entry = entry_from lsa tick by_flooding; reached = false }
unfolding entry_from
held_new clock age key lsa timer tick by_flooding after aged is quiet =
    ap (λ (n : ℕ). held_made n (sums.contents lsa) tick by_flooding (has_due after (record { moment = clock; age = n; key = key }))) aged
    ∙ ap (λ (b : Bool). held_made age (sums.contents lsa) tick by_flooding b) quiet
    ∙ ap (λ (n : ℕ). held_made n (sums.contents lsa) tick by_flooding false) is

-- what an install does
pub installs_put : (clock age : ℕ) (key : LsaKey) (lsa : List ℕ) (timer : Timer) (tick : ℕ) (by_flooding : Bool) (m n : BTreeMap LsaKey Stored) (due after : List AgeDue) → AreKeptEntries clock m.entries due → AreKeptEntries clock n.entries after
    → ((q : LsaKey) → stored_of n.entries q ≡ (if same_key key q then Some (record { lsa = sums.contents lsa; timer = timer; tick = tick; by_flooding = by_flooding }) else stored_of m.entries q))
    → key ≡ key_in (entry_from lsa tick by_flooding).contents → age_at clock timer ≡ age → age ≡ (header_of lsa).age → Replaces clock age key due after
    → Installs (entry_from lsa tick by_flooding) (map (held_at clock due) m.entries) (map (held_at clock after) n.entries)
installs_put clock age key lsa timer tick by_flooding m n due after kept kept_after put named aged is replaces =
    let s : Stored = record { lsa = sums.contents lsa; timer = timer; tick = tick; by_flooding = by_flooding } in
    subst (λ (k : LsaKey). Puts k (Some (record { entry = entry_from lsa tick by_flooding; reached = false })) (map (held_at clock due) m.entries) (map (held_at clock after) n.entries)) named
    (subst (λ (h : Held). Puts key (Some h) (map (held_at clock due) m.entries) (map (held_at clock after) n.entries)) (held_new clock age key lsa timer tick by_flooding after aged is replaces.quiet)
    (Puts-stored clock key (Some (record { lsa = sums.contents lsa; timer = timer; tick = tick; by_flooding = by_flooding })) m.entries n.entries due after kept.stored kept_after.stored put replaces.others))

-- ---- nothing changes where memory runs out

pub undone_due : (clock age : ℕ) (key : LsaKey) (es : List (LsaKey × Stored)) (due after : List AgeDue) → clock < 65536 → AreDue clock es due → age_of clock es key ≡ None
    → ((q : AgeDue) → has_due after q ≡ (not (is_coming clock age key q) && (is_coming clock age key q || has_due due q))) → (q : AgeDue) → has_due after q ≡ has_due due q
undone_due clock age key es due after c are is ops q = ops q ∙ elim (bool_cases (is_coming clock age key q)) [
  | inl one ↦ elim (bool_cases (has_due due q)) [
    | inl there ↦ absurd (comes_none clock q (comes_of clock key None es due are is q (coming_is clock age key q c one).0 there))
    | inr none ↦ rw (one, none) refl
  ]
  | inr two ↦ rw two refl
]

pub same_kept : (clock : ℕ) (es : List (LsaKey × Stored)) (due after : List AgeDue) → AreKeptEntries clock es due → ((q : AgeDue) → has_due after q ≡ has_due due q) → AreKeptEntries clock es after
same_kept clock es due after kept same = record {
  on_ring = kept.on_ring;
  stored = kept.stored;
  rising = kept.rising;
  are_due = record {
    sound = λ d there. kept.are_due.sound d (sym (same d) ∙ there);
    whole = λ d far comes. same d ∙ kept.are_due.whole d far comes;
  };
}

pub same_view : (clock : ℕ) (es : List (LsaKey × Stored)) (due after : List AgeDue) → ((q : AgeDue) → has_due after q ≡ has_due due q) → map (held_at clock after) es ≡ map (held_at clock due) es
same_view clock [] due after same = refl
same_view clock (e ∷ es) due after same =
    ap (λ (b : Bool). held_made (age_at clock e.1.timer) e.1.lsa e.1.tick e.1.by_flooding b ∷ map (held_at clock after) es) (same (record { moment = clock; age = age_at clock e.1.timer; key = e.0 }))
    ∙ ap (λ (hs : List Held). held_at clock due e ∷ hs) (same_view clock es due after same)
