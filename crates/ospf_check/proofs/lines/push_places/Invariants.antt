use Rattle.std.proofs.Common.{◌≡◌, ◌++◌, map, take}
use Rattle.serde_json.specs.View.{view}
use Rattle.ospf_check.specs.Lines.{fault_place_data}
use Rattle.ospf_check.proofs.lines.push_places.Given as goal

-- the places so far
abbrev pub invariant-loop-place : goal.invariant-loop-place
invariant-loop-place l =
    map view l.values.items ≡ map view l.fn.values.items ++ map (fault_place_data l.told.fault) (take l.place-index l.told.places.items)
