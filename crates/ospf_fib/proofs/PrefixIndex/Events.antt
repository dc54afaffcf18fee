-- What the events of a list come to.
use Rattle.std.proofs.Common.{◌≡◌, ◌<◌, ◌+◌, ℕ, zero, suc, Bool, true, false, List, [], ◌∷◌, ◌++◌, length, replicate, refl, ap, sym, ◌∙◌, subst, arith, length-append}
use mathlib.Core.List.{IsPrefix}
use Rattle.logbook.specs.Pages.{Cell, cell, nib, may_write, Away}
use Rattle.ospf_fib.specs.PrefixIndex.Known.{Table}
use Rattle.ospf_fib.specs.declared.index.rule.ListEvent.{ListEvent}
use Rattle.ospf_fib.specs.declared.index.rule.ListEvent.TheVariants.{Opened, Added, Closed}
use Rattle.ospf_fib.specs.PrefixIndex.Rule.{tables_of, opens, closed, legal, pen_cell, cells_of, IsCounted}

pub tables_append : (xs ys : List ListEvent) → tables_of (xs ++ ys) ≡ tables_of xs ++ tables_of ys
tables_append [] ys = refl
tables_append (Added t ∷ xs) ys = ap (λ l. t ∷ l) (tables_append xs ys)
tables_append (Opened ∷ xs) ys = tables_append xs ys
tables_append (Closed ∷ xs) ys = tables_append xs ys

pub opens_append : (xs ys : List ListEvent) → opens (xs ++ ys) ≡ opens xs + opens ys
opens_append [] ys = omega arith
opens_append (Added t ∷ xs) ys = opens_append xs ys
opens_append (Opened ∷ xs) ys = let e = opens_append xs ys in omega (arith, e)
opens_append (Closed ∷ xs) ys = opens_append xs ys

pub closed_append : (b : Bool) (xs ys : List ListEvent) → closed b (xs ++ ys) ≡ closed (closed b xs) ys
closed_append b [] ys = refl
closed_append b (Added t ∷ xs) ys = closed_append b xs ys
closed_append b (Opened ∷ xs) ys = closed_append false xs ys
closed_append b (Closed ∷ xs) ys = closed_append true xs ys

-- what follows a legal list is legal
pub legal_rest : (b : Bool) (xs ys : List ListEvent) → legal b (xs ++ ys) ≡ true → legal (closed b xs) ys ≡ true
legal_rest b [] ys e = e
legal_rest true (Added t ∷ xs) ys e = absurd cc
legal_rest false (Added t ∷ xs) ys e = legal_rest false xs ys e
legal_rest true (Opened ∷ xs) ys e = legal_rest false xs ys e
legal_rest false (Opened ∷ xs) ys e = absurd cc
legal_rest true (Closed ∷ xs) ys e = absurd cc
legal_rest false (Closed ∷ xs) ys e = legal_rest true xs ys e

-- a legal list goes on legally
pub legal_more : (b : Bool) (xs ys : List ListEvent) → legal b xs ≡ true → legal (closed b xs) ys ≡ true → legal b (xs ++ ys) ≡ true
legal_more b [] ys e f = f
legal_more true (Added t ∷ xs) ys e f = absurd cc
legal_more false (Added t ∷ xs) ys e f = legal_more false xs ys e f
legal_more true (Opened ∷ xs) ys e f = legal_more false xs ys e f
legal_more false (Opened ∷ xs) ys e f = absurd cc
legal_more true (Closed ∷ xs) ys e f = absurd cc
legal_more false (Closed ∷ xs) ys e f = legal_more true xs ys e f

-- a beginning has a beginning of the tables
pub tables_prefix : (xs ys : List ListEvent) → IsPrefix xs ys → IsPrefix (tables_of xs) (tables_of ys)
tables_prefix xs ys p = (tables_of p.0, sym (tables_append xs p.0) ∙ ap tables_of p.1)

-- what is closed and not opened again has nothing more
nothing : (more : List ListEvent) → legal true more ≡ true → opens more ≡ 0 → more ≡ []
nothing [] l o = refl
nothing (Added t ∷ more) l o = absurd cc
nothing (Opened ∷ more) l o = absurd (omega (arith, o))
nothing (Closed ∷ more) l o = absurd cc

pub append_none : (xs : List ListEvent) → xs ++ [] ≡ xs
append_none [] = refl
append_none (x ∷ xs) = ap (λ l. x ∷ l) (append_none xs)

-- a closed list that was opened no more is the whole
pub whole : (known log : List ListEvent) → IsPrefix known log → closed false known ≡ true → legal false log ≡ true → opens log ≡ opens known → log ≡ known
whole known log p c l o =
    let lawful : legal true p.0 ≡ true = subst (λ b. legal b p.0 ≡ true) c (legal_rest false known p.0 (ap (legal false) p.1 ∙ l)) in
    let none : opens p.0 ≡ 0 = omega (arith, sym (opens_append known p.0) ∙ ap opens p.1 ∙ o) in
    sym p.1 ∙ ap (λ m. known ++ m) (nothing p.0 lawful none) ∙ append_none known

homed : (n k : ℕ) (last : List Cell) → k < n → (cell (replicate n (0, true) ++ last) k).1 ≡ true
homed zero k last lt = absurd (omega (arith, lt))
homed (suc n) zero last lt = refl
homed (suc n) (suc k) last lt = homed n k last (omega (arith, lt))

-- the list of the pen is the whole
pub pen_whole : (known : List ListEvent) (cells : List Cell) (log : List ListEvent) → IsPrefix known log → closed false known ≡ true → IsCounted cells log
    → Away (nib may_write (suc (suc (opens known))) 0) cells → log ≡ known
pen_whole known cells log p c kept away =
    let more : opens log ≡ opens known + opens p.0 = ap opens (sym p.1) ∙ opens_append known p.0 in
    let out : (cell cells (suc (suc (opens known)))).1 ≡ false = (away refl).1 in
    let here : (cell (cells_of log) (suc (suc (opens known)))).1 ≡ false = subst (λ cs. (cell cs (suc (suc (opens known)))).1 ≡ false) kept.words out in
    whole known log p c kept.legal (by_size (opens p.0) refl more here)
  where
    by_size : (n : ℕ) → n ≡ opens p.0 → opens log ≡ opens known + opens p.0 → (cell (cells_of log) (suc (suc (opens known)))).1 ≡ false → opens log ≡ opens known
    by_size zero e more here = omega (arith, e, more)
    by_size (suc n) e more here = absurd (let h = homed (opens log) (opens known) (pen_cell (closed false log)) (omega (arith, e, more)) in cc)

-- the tables and the events with one table more
pub after_added : (known log : List ListEvent) (t : Table) (count events : ℕ) → log ≡ known ++ Added t ∷ [] → count ≡ length (tables_of known) → events ≡ length known → closed false known ≡ false
    → (count + 1 ≡ length (tables_of log)) × (events + 1 ≡ length log) × (closed false log ≡ false) × (tables_of log ≡ tables_of known ++ t ∷ [])
after_added known log t count events e c n shut =
    let ts : tables_of log ≡ tables_of known ++ t ∷ [] = ap tables_of e ∙ tables_append known (Added t ∷ []) in (
      omega (arith, c, ap length ts, length-append (tables_of known) (t ∷ [])),
      omega (arith, n, ap length e, length-append known (Added t ∷ [])),
      ap (closed false) e ∙ closed_append false known (Added t ∷ []) ∙ shut,
      ts,
    )

nil_tables : (xs : List Table) → xs ++ [] ≡ xs
nil_tables [] = refl
nil_tables (x ∷ xs) = ap (λ l. x ∷ l) (nil_tables xs)

-- the same once the list is closed
pub after_closed : (known log : List ListEvent) (count events : ℕ) → log ≡ known ++ Closed ∷ [] → count ≡ length (tables_of known) → events ≡ length known
    → (count ≡ length (tables_of log)) × (events + 1 ≡ length log) × (closed false log ≡ true) × (tables_of log ≡ tables_of known) × (opens log ≡ opens known)
after_closed known log count events e c n =
    let ts : tables_of log ≡ tables_of known = ap tables_of e ∙ tables_append known (Closed ∷ []) ∙ nil_tables (tables_of known) in (
      c ∙ ap length (sym ts),
      omega (arith, n, ap length e, length-append known (Closed ∷ [])),
      ap (closed false) e ∙ closed_append false known (Closed ∷ []),
      ts,
      omega (arith, ap opens e, opens_append known (Closed ∷ [])),
    )

-- the same once the list is opened
pub after_opened : (known log : List ListEvent) (count events : ℕ) → log ≡ known ++ Opened ∷ [] → count ≡ length (tables_of known) → events ≡ length known
    → (count ≡ length (tables_of log)) × (events + 1 ≡ length log) × (closed false log ≡ false) × (tables_of log ≡ tables_of known)
after_opened known log count events e c n =
    let ts : tables_of log ≡ tables_of known = ap tables_of e ∙ tables_append known (Opened ∷ []) ∙ nil_tables (tables_of known) in (
      c ∙ ap length (sym ts),
      omega (arith, n, ap length e, length-append known (Opened ∷ [])),
      ap (closed false) e ∙ closed_append false known (Opened ∷ []),
      ts,
    )
