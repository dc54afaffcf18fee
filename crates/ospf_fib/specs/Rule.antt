-- The rule of the shared table, and what each step says of it.
use Rattle.std.specs.Prelude.{◌≡◌, ℕ, Bool, true, false, List, IsTrue}
use mathlib.Core.Option.{some}
use lib.ListN.{get_elem?}
use Rattle.logbook.specs.Pages.{Book}
use Rattle.ospf_fib.specs.PrefixIndex.Rule.{counter_of}
use Rattle.ospf_fib.specs.declared.shown.ShownTable.{ShownTable}
use Rattle.ospf_fib.specs.declared.rule.Knows.{Knows}

-- each place that knows a list knows that of the table that is shown
abbrev pub IsOneList : ShownTable → List Knows → Type 0
IsOneList shown views =
    (place : ℕ) (v : Knows) → get_elem? views place ≡ some v → IsTrue v.named
    → v.counter ≡ counter_of shown.known.fib

-- what a place knows: whether it knows a list, and which
abbrev pub knows : Bool → Book → Knows
knows named fib = record { named = named; counter = counter_of fib }

-- a place at the start knows no list
abbrev pub newcomer : Knows
newcomer = knows false (record { number = 0; log_name = 0; cells_name = 0 })

-- an entry leaves what the place knows, and what it finds is of the list that the place knows
abbrev pub FindsItsList : Knows → ShownTable → ShownTable → Knows → Type 0
FindsItsList before was found after =
    (after ≡ before) × (IsTrue before.named → before.counter ≡ counter_of found.known.fib)

-- the swap lets the writer's place know the list of what is shown from then on
abbrev pub NamesTheList : Knows → ShownTable → ShownTable → Knows → Type 0
NamesTheList before was next after = after ≡ knows true next.known.fib

-- the place knows this list
abbrev pub IsKnownBook : Knows → Book → Type 0
IsKnownBook v fib = v ≡ knows true fib
