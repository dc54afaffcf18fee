use Rattle.std.proofs.Common.{◌≡◌, flat_map, map, take}
use Rattle.serde_json.specs.View.{view}
use Rattle.ospf_check.specs.Lines.{fault_items}
use Rattle.ospf_check.proofs.lines.places_of.Given as goal

-- the places of the faults so far
abbrev pub invariant-loop-told : goal.invariant-loop-told
invariant-loop-told l = map view l.values.items ≡ flat_map fault_items (take l.told-index l.faults)
