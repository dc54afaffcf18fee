-- What the writer's copies show, and what they will show.
use Rattle.std.specs.Prelude.{◌≡◌, ◌++◌, ◌∷◌, [], true, List, fold}
use Rattle.ospf_fib.specs.PrefixIndex.Known.{Known, Table}
use Rattle.ospf_fib.specs.declared.shown.ShownTable.{ShownTable}
use Rattle.ospf_fib.specs.declared.shown.HandedOver.{HandedOver}
use Rattle.ospf_fib.specs.declared.shown.Common.{Common}
use Rattle.ospf_fib.specs.Versions.{added_unless, edited_by}

-- readers find the last table of this list
abbrev pub IsListShown : ShownTable → Known → Type 0
IsListShown shown known = (shown.live ≡ true) × (shown.known ≡ known)

-- what is shown, as the writer and the readers have it in common: the list that the table ends
abbrev pub common_of : ShownTable → Common
common_of shown =
    record {
      table = shown.table;
      list =
          record {
            fib = shown.known.fib;
            tables = added_unless shown.live shown.table shown.known.tables;
          };
    }

-- what is shown once the changes in the log are made: the opening adds no table
abbrev pub shown_after : Common → HandedOver → Common
shown_after was next =
    record {
      table = edited_by next.is_opening was.table next.changes;
      list =
          record {
            fib = next.known.fib;
            tables =
                added_unless next.is_opening (edited_by next.is_opening was.table next.changes)
                next.known.tables;
          };
    }

-- what is shown once all that waits is absorbed
abbrev pub shown_end : ShownTable → List HandedOver → Common
shown_end shown waiting = fold shown_after (common_of shown) waiting

-- a list with one table more
abbrev pub with_table : Known → Table → Known
with_table known table = record { fib = known.fib; tables = known.tables ++ table ∷ [] }

-- what a publish works on: the list, and what is shown once all that waits is absorbed
pub record Offer : Type 0 where
  pub list : Known
  pub end : Common
