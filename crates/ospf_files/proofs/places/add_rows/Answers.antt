use Rattle.std.proofs.Common.{◌≡◌, Some, None, [], get_or, take}
use Rattle.std.proofs.lemmas.List.{take_all, get_or_default}
use Rattle.toml.specs.View.{table_view}
use Rattle.ospf_files.specs.declared.rows.Row.{Row}
use Rattle.ospf_files.specs.Explained.{IsKeyPlace, no_key}
use Rattle.ospf_files.proofs.PlaceLists.{adds_nothing, adds_where}
use Rattle.ospf_files.proofs.places.add_rows.Goals as goal

pub loop-row-init : goal.loop-row-init
loop-row-init c = adds_nothing _ _ no_key

pub loop-row-preserved : goal.loop-row-preserved
loop-row-preserved c =
    let i = c.loop-row.row-index in
    let row : Row = get_or c.args.rows.now i (record { key = record { ref_ptr = (0, 0); now = [] }; fault = None; wanted = record { ref_ptr = (0, 0); now = [] } }) in
    adds_where (λ (r : Row). r.fault ≡ Some c.args.fault) (λ (r : Row) e. IsKeyPlace c.args.section (table_view c.args.table.now) r.key.now r.wanted.now e) _ c.args.rows.now i row _ _ _
    c.loop-row-test.true (get_or_default c.args.rows.now i _ _ c.loop-row-test.true) c.has_fault-holds.ensures c.loop-row.invariant c.in_ok-add_where.ensures

pub returns : goal.returns
returns c =
    let whole : take c.loop-row.row-index c.args.rows.now ≡ c.args.rows.now = take_all _ _ c.loop-row-test.false in
    let inv = c.loop-row.invariant in
    rw whole at inv
