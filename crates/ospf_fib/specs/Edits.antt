-- Edits of a table without an index (RFC 2328, section 11).
use Rattle.std.specs.Prelude.{◌≤◌, ◌+◌, List, All, length}
use Rattle.ospf_graph.specs.declared.route.Route.{Route}
use Rattle.ospf_spf.specs.Changes.{PutsHops}
use Rattle.ospf_spf.specs.declared.changes.Change.{Change}
use Rattle.ospf_fib.specs.PrefixIndex.Replaced.{Replaces}
use Rattle.ospf_fib.specs.declared.table_edit.TableEdit.{TableEdit}
use Rattle.ospf_fib.specs.declared.table_edit.TableEdit.TheVariants.{InPlace, OnePass}

-- the changes of an edit
abbrev pub changes_of : TableEdit → List Change
changes_of (InPlace changes) = changes.items
changes_of (OnePass edit) = edit.changes

-- the edit is of a table with these prefixes, or has the room for one pass over it
abbrev pub CanMake : TableEdit → List Route → Type 0
CanMake (InPlace changes) routes = All (Replaces routes) changes.items × All PutsHops changes.items
CanMake (OnePass edit) routes = length routes + length edit.changes ≤ edit.room
