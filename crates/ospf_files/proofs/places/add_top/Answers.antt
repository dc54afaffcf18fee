use Rattle.std.proofs.lemmas.Result.{on_ok_weaker}
use Rattle.toml.specs.View.{table_view}
use Rattle.ospf_files.proofs.PlaceLists.{top_added}
use Rattle.ospf_files.proofs.places.add_top.Goals as goal

pub returns-in_default : goal.returns-in_default
returns-in_default c =
    on_ok_weaker c.add_rows.result
    (top_added (table_view c.args.table.now) c.args.fault c.args.out.now.items c.add_rows.new.out.items c.top_rows.result c.in_default.not-Unknown c.top_rows.ensures) c.add_rows.ensures
