use Rattle.std.proofs.Common.{take}
use Rattle.toml.specs.View.{items_view}
use Rattle.ospf_config.specs.Tables.{tables_among}
use Rattle.ospf_files.specs.Explained.{AreHostPlaces}
use Rattle.ospf_files.proofs.PlaceLists.{AreTold}
use Rattle.ospf_files.proofs.places.add_hosts.Given as goal

abbrev pub invariant-loop-host : goal.invariant-loop-host
invariant-loop-host l =
    AreTold (AreHostPlaces l.rfc3021 (tables_among (items_view l.interfaces)) l.fault) (tables_among (items_view (take l.host l.values))) l.host l.fn.out.items l.out.items
