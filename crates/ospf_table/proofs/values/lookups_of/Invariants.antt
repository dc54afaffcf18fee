use Rattle.std.proofs.Common.{map, take}
use Rattle.serde_json.specs.View.{view}
use Rattle.ospf_table.specs.Values.{AreFound}
use Rattle.ospf_table.proofs.values.lookups_of.Given as goal

-- what is said of the addresses so far
abbrev pub invariant-loop-address : goal.invariant-loop-address
invariant-loop-address l = AreFound l.table (take l.address-index l.addresses) (map view l.values.items)
