-- The exchanges that keep the rule.
use Rattle.std.proofs.Common.{◌≡◌, ℕ, zero, suc, ◌+◌, ◌<◌, ◌==◌, Bool, true, false, List, [], ◌∷◌, ◌++◌, length, replicate, refl, ap, sym, ◌∙◌, subst, arith, inl, length-append, None, slice_set, MatchBool}
use Rattle.std.specs.Bool.{⊤}
use Rattle.std.proofs.lemmas.Bool.Decides.{nat_tests}
use mathlib.Core.List.{IsPrefix}
use prog.Atomic.{either}
use Rattle.logbook.specs.Pages.{Cell, cell, keeps, gives, adds, nib, no_nib, may_write, may_make, step, View, Moves, Goes}
use Rattle.ospf_fib.specs.PrefixIndex.Known.{Table}
use Rattle.ospf_fib.specs.declared.index.rule.ListEvent.{ListEvent}
use Rattle.ospf_fib.specs.declared.index.rule.ListEvent.TheVariants.{Opened, Added, Closed}
use Rattle.ospf_fib.specs.PrefixIndex.Rule.{opens, closed, legal, pen_cell, cells_of, IsCounted, AddsWhereCounted, ClosesWhereCounted, OpensAlways, ProvesWhole}
use Rattle.ospf_fib.proofs.PrefixIndex.Prefixes.{prefix_whole, prefix_trans}
use Rattle.ospf_fib.proofs.PrefixIndex.Events.{opens_append, closed_append, legal_more, append_none, pen_whole}

-- clients see nothing of the list, and trade nothing
abbrev pub shown : List ListEvent → List ListEvent
shown events = []

abbrev pub moved : List ListEvent → List ListEvent → ℕ → Type 0
moved before after answer = Unit {0}

length_snoc : (log : List ListEvent) (e : ListEvent) → length (log ++ e ∷ []) ≡ length log + 1
length_snoc log e = length-append log (e ∷ [])

-- the cells after one table more
cells_added : (log : List ListEvent) (t : Table) → (length log + 1, true) ∷ (0, true) ∷ (replicate (opens log) (0, true) ++ pen_cell (closed false log)) ≡ cells_of (log ++ Added t ∷ [])
cells_added log t =
    let o : opens (log ++ Added t ∷ []) ≡ opens log = omega (arith, opens_append log (Added t ∷ [])) in
    rw (length_snoc log (Added t), o, closed_append false log (Added t ∷ [])) refl

nil_cells : (xs : List Cell) → xs ++ [] ≡ xs
nil_cells [] = refl
nil_cells (x ∷ xs) = ap (λ l. x ∷ l) (nil_cells xs)

-- the cells after the list was closed
cells_closed : (log : List ListEvent) → closed false log ≡ false → (length log + 1, true) ∷ (0, true) ∷ ((replicate (opens log) (0, true) ++ pen_cell (closed false log)) ++ (0, false) ∷ []) ≡ cells_of (log ++ Closed ∷ [])
cells_closed log is_open =
    let o : opens (log ++ Closed ∷ []) ≡ opens log = omega (arith, opens_append log (Closed ∷ [])) in
    let c : closed false (log ++ Closed ∷ []) ≡ true = closed_append false log (Closed ∷ []) in
    rw (length_snoc log Closed, o, c, is_open, nil_cells (replicate (opens log) (0, true))) refl

set_last : (n : ℕ) → slice_set {A = Cell} (replicate n (0, true) ++ (0, false) ∷ []) n (0, true) ≡ replicate (suc n) (0, true) ++ []
set_last zero = refl
set_last (suc n) = ap (λ l. (0, true) ∷ l) (set_last n)

-- the cells after the list was opened
cells_opened : (log : List ListEvent) → closed false log ≡ true → (length log + 1, true) ∷ (0, true) ∷ slice_set {A = Cell} (replicate (opens log) (0, true) ++ pen_cell (closed false log)) (opens log) (0, true) ≡ cells_of (log ++ Opened ∷ [])
cells_opened log shut =
    let o : opens (log ++ Opened ∷ []) ≡ suc (opens log) = omega (arith, opens_append log (Opened ∷ [])) in
    let c : closed false (log ++ Opened ∷ []) ≡ false = closed_append false log (Opened ∷ []) in
    rw (length_snoc log Opened, o, c, shut, set_last (opens log)) refl

-- nothing changes
same_counted : (log : List ListEvent) (n : ℕ) → n ≡ length log → legal false log ≡ true → IsCounted ((n, true) ∷ (0, true) ∷ (replicate (opens log) (0, true) ++ pen_cell (closed false log))) (log ++ [])
same_counted log n e l = record { words = rw (append_none log, e) refl; legal = rw (append_none log) l }

adds_goes : (log known : List ListEvent) (t : Table) (count : ℕ) → length known ≡ count → closed false known ≡ false → IsPrefix known log → legal false log ≡ true
    → (found : Bool) → (length log == count) ≡ found
    → Goes IsCounted shown moved 0 (known, (no_nib, None)) (λ n. either (n == count) (count + 1) n) (AddsWhereCounted (step 0 count (count + 1) (Added t)) (known, (no_nib, None))) (cells_of log) log
adds_goes log known t count len is_open pre lawful true is =
    let here : length log ≡ count = grind (arith, nat_tests) in
    let same : known ≡ log = prefix_whole known log pre (omega arith) in
    let n : either (length log == count) (count + 1) (length log) ≡ length log + 1 = rw is (omega (arith, here)) in
    let o : closed false log ≡ false = ap (closed false) (sym same) ∙ is_open in (
      keeps,
      Added t ∷ [],
      None,
      tt,
      record {
        words = ap (λ (k : ℕ). (k, true) ∷ (0, true) ∷ (replicate (opens log) (0, true) ++ pen_cell (closed false log))) n ∙ cells_added log t;
        legal = legal_more false log (Added t ∷ []) lawful (rw o refl);
      },
      inl (refl, refl),
      rw is (ap (λ w. w ++ Added t ∷ []) (sym same)),
    )
adds_goes log known t count len is_open pre lawful false is =
    let n : either (length log == count) (count + 1) (length log) ≡ length log = rw is refl in (
      keeps,
      [],
      None,
      tt,
      same_counted log _ n lawful,
      inl (refl, refl),
      rw is tt,
    )

-- whatever the list has become, the exchange adds the table to all that was known, or finds another count
pub adds_moves : (known : List ListEvent) (t : Table) (count : ℕ) → length known ≡ count → closed false known ≡ false
    → Moves IsCounted shown moved 0 (known, (no_nib, None)) (λ n. either (n == count) (count + 1) n) (AddsWhereCounted (step 0 count (count + 1) (Added t)) (known, (no_nib, None)))
adds_moves known t count len is_open cells log kept pre away =
    let Goes_at : List Cell → Type 0 = λ c. (0 < length c) × ((cell c 0).1 ≡ true) × Goes IsCounted shown moved 0 (known, (no_nib, None)) (λ n. either (n == count) (count + 1) n) (AddsWhereCounted (step 0 count (count + 1) (Added t)) (known, (no_nib, None))) c log in
    subst Goes_at (sym kept.words) (omega arith, refl, adds_goes log known t count len is_open pre kept.legal (length log == count) refl)

length_replicate : (n : ℕ) (c : Cell) → length (replicate n c) ≡ n
length_replicate zero c = refl
length_replicate (suc n) c = let e = length_replicate n c in omega (arith, e)

closes_goes : (log known : List ListEvent) (count : ℕ) → length known ≡ count → closed false known ≡ false → IsPrefix known log → legal false log ≡ true
    → (found : Bool) → (length log == count) ≡ found
    → Goes IsCounted shown moved 0 (known, (no_nib, None)) (λ n. either (n == count) (count + 1) n) (ClosesWhereCounted (step 0 count (count + 1) Closed) (known, (no_nib, None))) (cells_of log) log
closes_goes log known count len is_open pre lawful true is =
    let here : length log ≡ count = grind (arith, nat_tests) in
    let same : known ≡ log = prefix_whole known log pre (omega arith) in
    let n : either (length log == count) (count + 1) (length log) ≡ length log + 1 = rw is (omega (arith, here)) in
    let o : closed false log ≡ false = ap (closed false) (sym same) ∙ is_open in
    let wide : length (cells_of log) ≡ suc (suc (opens known)) = rw (o, nil_cells (replicate (opens log) (0, true)), same) (let r = length_replicate (opens log) (0, true) in omega (arith, r)) in (
      adds,
      Closed ∷ [],
      None,
      tt,
      record {
        words = ap (λ (k : ℕ). (k, true) ∷ (0, true) ∷ ((replicate (opens log) (0, true) ++ pen_cell (closed false log)) ++ (0, false) ∷ [])) n ∙ cells_closed log o;
        legal = legal_more false log (Closed ∷ []) lawful (rw o refl);
      },
      inl (refl, refl),
      rw is (ap (λ w. w ++ Closed ∷ []) (sym same), ap (λ k. nib may_make k 0) wide),
    )
closes_goes log known count len is_open pre lawful false is =
    let n : either (length log == count) (count + 1) (length log) ≡ length log = rw is refl in (
      keeps,
      [],
      None,
      tt,
      same_counted log _ n lawful,
      inl (refl, refl),
      rw is tt,
    )

pub closes_moves : (known : List ListEvent) (count : ℕ) → length known ≡ count → closed false known ≡ false
    → Moves IsCounted shown moved 0 (known, (no_nib, None)) (λ n. either (n == count) (count + 1) n) (ClosesWhereCounted (step 0 count (count + 1) Closed) (known, (no_nib, None)))
closes_moves known count len is_open cells log kept pre away =
    let Goes_at : List Cell → Type 0 = λ c. (0 < length c) × ((cell c 0).1 ≡ true) × Goes IsCounted shown moved 0 (known, (no_nib, None)) (λ n. either (n == count) (count + 1) n) (ClosesWhereCounted (step 0 count (count + 1) Closed) (known, (no_nib, None))) c log in
    subst Goes_at (sym kept.words) (omega arith, refl, closes_goes log known count len is_open pre kept.legal (length log == count) refl)

-- the exchange of the one that has the pen opens the list
pub opens_moves : (known : List ListEvent) (count : ℕ) → length known ≡ count → closed false known ≡ true
    → Moves IsCounted shown moved 0 (known, (nib may_write (suc (suc (opens known))) 0, None)) (λ n. either (n == count) (count + 1) n) (OpensAlways (step 0 count (count + 1) Opened) (known, (nib may_write (suc (suc (opens known))) 0, None)))
opens_moves known count len shut cells log kept pre away =
    let v : View ListEvent ℕ = (known, (nib may_write (suc (suc (opens known))) 0, None)) in
    let Goes_at : List Cell → Type 0 = λ c. (0 < length c) × ((cell c 0).1 ≡ true) × Goes IsCounted shown moved 0 v (λ n. either (n == count) (count + 1) n) (OpensAlways (step 0 count (count + 1) Opened) v) c log in
    let same : log ≡ known = pen_whole known cells log pre shut kept away in
    let is : (length log == count) ≡ true = rw (same, len) (grind (arith, nat_tests)) in
    let n : either (length log == count) (count + 1) (length log) ≡ length log + 1 = rw is (omega (arith, ap length same, len)) in
    let c : closed false log ≡ true = ap (closed false) same ∙ shut in
    subst Goes_at (sym kept.words) (
      omega arith,
      refl,
      (
        gives,
        Opened ∷ [],
        None,
        refl,
        record {
          words = ap (λ (k : ℕ). (k, true) ∷ (0, true) ∷ slice_set {A = Cell} (replicate (opens log) (0, true) ++ pen_cell (closed false log)) (opens known) (0, true)) n
              ∙ ap (λ o. (length log + 1, true) ∷ (0, true) ∷ slice_set {A = Cell} (replicate (opens log) (0, true) ++ pen_cell (closed false log)) o (0, true)) (sym (ap opens same))
              ∙ cells_opened log c;
          legal = legal_more false log (Opened ∷ []) kept.legal (rw c refl);
        },
        inl (refl, refl),
        ap (λ w. w ++ Opened ∷ []) same,
      ),
    )

matched : {P : Type 0} (b : Bool) → b ≡ true → MatchBool b P ⊤ → P
matched true e p = p
matched false e p = absurd cc

-- what the exchange tells where it found what it expected
pub told : {P : Type 0} (found old : ℕ) → found ≡ old → MatchBool (found == old) P ⊤ → P
told found old e p = matched (found == old) (grind (arith, nat_tests)) p
