use Rattle.std.proofs.lemmas.Result.{on_ok_weaker}
use Rattle.toml.specs.View.{table_view}
use Rattle.ospf_files.proofs.PlaceLists.{taken_added, host_unknown_added, host_rows_added}
use Rattle.ospf_files.proofs.places.add_host.Goals as goal

pub returns-in-SamePrefix : goal.returns-in-SamePrefix
returns-in-SamePrefix c q interfaces before same =
    on_ok_weaker c.add_where.result
    (taken_added q (table_view c.args.table.now) c.args.host c.args.fault c.args.out.now.items c.add_where.new.out.items interfaces before c.args.is_taken c.in-SamePrefix.is same) c.add_where.ensures

pub returns-in-Unknown : goal.returns-in-Unknown
returns-in-Unknown c q interfaces before same =
    on_ok_weaker c.add_unknown.result
    (host_unknown_added q (table_view c.args.table.now) c.args.host c.args.fault c.args.out.now.items c.add_unknown.new.out.items interfaces before c.in-Unknown.is)
    (rw c.host_names.ensures at c.add_unknown.ensures)

pub returns-in_default : goal.returns-in_default
returns-in_default c q interfaces before same =
    on_ok_weaker c.add_rows.result
    (host_rows_added q (table_view c.args.table.now) c.args.host c.args.fault c.args.out.now.items c.add_rows.new.out.items interfaces before c.host_rows.result
    c.in_default.not-SamePrefix c.in_default.not-Unknown (c.host_rows.ensures q))
    c.add_rows.ensures
