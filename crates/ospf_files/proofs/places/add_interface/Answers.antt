use Rattle.std.proofs.lemmas.Result.{on_ok_weaker}
use Rattle.toml.specs.View.{table_view, items_view}
use Rattle.ospf_config.specs.Tables.{tables_among}
use Rattle.ospf_files.proofs.PlaceLists.{prefix_added, dead_added, rows_added}
use Rattle.ospf_files.proofs.places.add_interface.Goals as goal

pub returns-in-SamePrefix : goal.returns-in-SamePrefix
returns-in-SamePrefix c =
    on_ok_weaker c.add_where.result
    (prefix_added c.args.rfc3021 (table_view c.args.table.now) c.args.interface c.args.fault c.args.out.now.items c.add_where.new.out.items c.args.before.now c.is_any_in_conflict-holds.result c.in-SamePrefix.is
    c.is_any_in_conflict-holds.ensures)
    c.add_where.ensures

pub returns-in-DeadNotOverHello : goal.returns-in-DeadNotOverHello
returns-in-DeadNotOverHello c =
    on_ok_weaker c.add_where-in-DeadNotOverHello.result
    (dead_added c.args.rfc3021 (table_view c.args.table.now) c.args.interface c.args.fault c.args.out.now.items c.add_where-in-DeadNotOverHello.new.out.items (tables_among (items_view c.args.before.now))
    c.is_dead_not_over_hello-holds.result c.in-DeadNotOverHello.is c.is_dead_not_over_hello-holds.ensures)
    c.add_where-in-DeadNotOverHello.ensures

pub returns-in_default : goal.returns-in_default
returns-in_default c =
    on_ok_weaker c.add_rows.result
    (rows_added c.args.rfc3021 (table_view c.args.table.now) c.args.interface c.args.fault c.args.out.now.items c.add_rows.new.out.items (tables_among (items_view c.args.before.now)) c.interface_rows-rows.result
    c.in_default.not-SamePrefix c.in_default.not-DeadNotOverHello c.in_default.not-Unknown c.interface_rows-rows.ensures)
    c.add_rows.ensures
