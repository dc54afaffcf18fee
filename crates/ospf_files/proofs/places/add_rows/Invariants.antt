use Rattle.std.proofs.Common.{◌≡◌, Some, take}
use Rattle.toml.specs.View.{table_view}
use Rattle.ospf_files.specs.Explained.{ArePlacesOf, IsKeyPlace}
use Rattle.ospf_files.specs.Rows.{AddsRows}
use Rattle.ospf_files.proofs.places.add_rows.Given as goal

abbrev pub invariant-loop-row : goal.invariant-loop-row
invariant-loop-row l =
    AddsRows (ArePlacesOf (λ row. row.fault ≡ Some l.fault) (λ row. IsKeyPlace l.section (table_view l.table) row.key.now row.wanted.now) (take l.row-index l.rows)) l.fn.out.items l.out.items
