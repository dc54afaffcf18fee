use Rattle.std.proofs.Common.{◌≡◌, refl, take}
use Rattle.std.proofs.lemmas.List.{take_all}
use Rattle.toml.specs.View.{table_view}
use Rattle.ospf_files.specs.Explained.{AreInterfacePlaces, no_table}
use Rattle.ospf_files.proofs.PlaceLists.{adds_nothing, told_more}
use Rattle.ospf_files.proofs.places.add_interfaces.Goals as goal

pub loop-interface-init : goal.loop-interface-init
loop-interface-init c = record { places = adds_nothing _ _ no_table; number_is = refl }

pub loop-interface-preserved : goal.loop-interface-preserved
loop-interface-preserved c =
    told_more (AreInterfacePlaces c.args.rfc3021 c.args.fault) c.args.values.now c.loop-interface.interface c.index-values-interface.result (table_view c.table_in.result.now) _ _ _ c.loop-interface-test.true
    c.index-values-interface.is c.table_in.ensures c.loop-interface.invariant c.in_ok-add_interface.ensures

pub returns : goal.returns
returns c =
    let whole : take c.loop-interface.interface c.args.values.now ≡ c.args.values.now = take_all _ _ c.loop-interface-test.false in
    let inv = c.loop-interface.invariant.places in
    rw whole at inv
