use Rattle.std.proofs.Common.{take}
use Rattle.toml.specs.View.{items_view}
use Rattle.ospf_config.specs.Tables.{tables_among}
use Rattle.ospf_files.specs.Explained.{AreInterfacePlaces}
use Rattle.ospf_files.proofs.PlaceLists.{AreTold}
use Rattle.ospf_files.proofs.places.add_interfaces.Given as goal

abbrev pub invariant-loop-interface : goal.invariant-loop-interface
invariant-loop-interface l = AreTold (AreInterfacePlaces l.rfc3021 l.fault) (tables_among (items_view (take l.interface l.values))) l.interface l.fn.out.items l.out.items
