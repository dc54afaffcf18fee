-- The rule of the list of events, and what each step reports.
use Rattle.std.specs.Prelude.{ℕ, ◌≡◌, ◌==◌, suc, Bool, true, false, not, ◌&&◌, List, [], ◌∷◌, ◌++◌, length, replicate, MatchBool, ⊤}
use Rattle.logbook.specs.Pages.{Cell, Step, View, Book, Named, nib, may_make}
use Rattle.ospf_fib.specs.PrefixIndex.Known.{Table}
use Rattle.ospf_fib.specs.declared.index.rule.ListEvent.{ListEvent}
use Rattle.ospf_fib.specs.declared.index.rule.ListEvent.TheVariants.{Opened, Added, Closed}

-- the list of tables that the events make
abbrev pub tables_of : List ListEvent → List Table
tables_of [] = []
tables_of (Added t ∷ es) = t ∷ tables_of es
tables_of (Opened ∷ es) = tables_of es
tables_of (Closed ∷ es) = tables_of es

-- how often it was opened
abbrev pub opens : List ListEvent → ℕ
opens [] = 0
opens (Added t ∷ es) = opens es
opens (Opened ∷ es) = suc (opens es)
opens (Closed ∷ es) = opens es

-- whether it is closed after the events
abbrev pub closed : Bool → List ListEvent → Bool
closed b [] = b
closed b (Added t ∷ es) = closed b es
closed b (Opened ∷ es) = closed false es
closed b (Closed ∷ es) = closed true es

-- what is closed is opened next; what is open gets tables, or is closed
abbrev pub legal : Bool → List ListEvent → Bool
legal b [] = true
legal b (Added t ∷ es) = not b && legal b es
legal b (Opened ∷ es) = b && legal false es
legal b (Closed ∷ es) = not b && legal true es

-- at the start the empty table was added
abbrev pub first_log : List ListEvent
first_log = Added [] ∷ []

-- the pen's cell, where the list is closed
abbrev pub pen_cell : Bool → List Cell
pen_cell true = (0, false) ∷ []
pen_cell false = []

-- the cells of the book in which the events are counted
abbrev pub cells_of : List ListEvent → List Cell
cells_of log =
    (length log, true) ∷ (0, true)
    ∷ (replicate (opens log) (0, true) ++ pen_cell (closed false log))

-- the first word of the book is the number of events; each opening leaves a cell, and a pen
-- is out while the list is closed
pub record IsCounted (cells : List Cell) (log : List ListEvent) : Type 0 where
  pub words : cells ≡ cells_of log
  pub legal : legal false log ≡ true

-- the word that counts the events of this list
abbrev pub counter_of : Book → Named
counter_of book = record { tracked = true; key = 0; book = book }

-- where the count was the expected one, the event comes after all that was known
abbrev pub AddsWhereCounted : Step ListEvent → View ListEvent ℕ → ℕ → View ListEvent ℕ → Type 0
AddsWhereCounted s before found after =
    MatchBool (found == s.old) (after.0 ≡ before.0 ++ s.ask ∷ []) ⊤

-- and there is a pen
abbrev pub ClosesWhereCounted : Step ListEvent → View ListEvent ℕ → ℕ → View ListEvent ℕ → Type 0
ClosesWhereCounted s before found after =
    MatchBool (found == s.old)
    ((after.0 ≡ before.0 ++ s.ask ∷ [])
    × (after.1.0 ≡ (nib may_make (suc (suc (opens before.0))) 0))) ⊤

-- the event comes after all that was known
abbrev pub OpensAlways : Step ListEvent → View ListEvent ℕ → ℕ → View ListEvent ℕ → Type 0
OpensAlways s before found after = after.0 ≡ before.0 ++ s.ask ∷ []

-- it was opened as often as the pen says, and the pen stays
abbrev pub ProvesWhole : Step ListEvent → View ListEvent ℕ → ℕ → View ListEvent ℕ → Type 0
ProvesWhole s before found after =
    (suc (suc (opens after.0)) ≡ before.1.0.key) × (legal false after.0 ≡ true)
    × (after.1.0 ≡ before.1.0)
