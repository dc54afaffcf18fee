use Rattle.std.proofs.Common.{◌≡◌, refl, take}
use Rattle.std.proofs.lemmas.List.{take_all}
use Rattle.toml.specs.View.{items_view, table_view}
use Rattle.ospf_config.specs.Tables.{tables_among}
use Rattle.ospf_files.specs.Explained.{AreHostPlaces, no_table}
use Rattle.ospf_files.proofs.PlaceLists.{adds_nothing, told_more}
use Rattle.ospf_files.proofs.places.add_hosts.Goals as goal

pub loop-host-init : goal.loop-host-init
loop-host-init c = record { places = adds_nothing _ _ no_table; number_is = refl }

pub loop-host-preserved : goal.loop-host-preserved
loop-host-preserved c =
    let interfaces = tables_among (items_view c.args.interfaces.now) in
    told_more (AreHostPlaces c.args.rfc3021 interfaces c.args.fault) c.args.values.now c.loop-host.host c.index-values-host.result (table_view c.table_in-table.result.now) _ _ _ c.loop-host-test.true
    c.index-values-host.is c.table_in-table.ensures c.loop-host.invariant (c.in_ok-add_host.ensures c.args.rfc3021 interfaces _ c.is_taken-holds.ensures)

pub returns : goal.returns
returns c =
    let whole : take c.loop-host.host c.args.values.now ≡ c.args.values.now = take_all _ _ c.loop-host-test.false in
    let inv = c.loop-host.invariant.places in
    rw whole at inv
