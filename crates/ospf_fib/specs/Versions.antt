-- Versions: places in the list of published tables.
use Rattle.std.specs.Prelude.{◌≡◌, ℕ, ◌-◌, ◌%◌, ◌^◌, Bool, true, false, List, [], ◌∷◌, ◌++◌, length, slice_get, Option, Some}
use Rattle.ospf_fib.specs.PrefixIndex.Known.{Table}
use Rattle.ospf_spf.specs.Changes.{edited}
use Rattle.ospf_spf.specs.declared.changes.Change.{Change}

-- the table is the last one of the list, and its version is its place there, modulo 2^64
pub record IsLastTable (tables : List Table) (version : ℕ) (table : Table) : Type 0 where
  pub before : List Table
  pub ends : tables ≡ before ++ table ∷ []
  pub version_is : version ≡ length before % 2 ^ 64

-- the table is the last one of the list
abbrev pub EndsWith : List Table → Table → Type 0
EndsWith tables table = (before : List Table) × (tables ≡ before ++ table ∷ [])

-- a list with one table more: its last one with these changes
abbrev pub AddsEdited : List Table → List Change → List Table → Type 0
AddsEdited old changes new =
    (last : Table) × EndsWith old last × (new ≡ old ++ edited last changes ∷ [])

-- what a list ends with where it is live, and else the table itself
abbrev pub found_of : Bool → Table → List Table → Option Table
found_of true table tables = slice_get tables (length tables - 1)
found_of false table tables = Some table

-- the list with this table at its end, unless the condition holds
abbrev pub added_unless : Bool → Table → List Table → List Table
added_unless true table tables = tables
added_unless false table tables = tables ++ table ∷ []

-- the table that these changes make: at the opening it has no route
abbrev pub edited_by : Bool → Table → List Change → Table
edited_by true table changes = []
edited_by false table changes = edited table changes
