use Rattle.std.proofs.Common.{◌≡◌, flat_map, map, take}
use Rattle.serde_json.specs.View.{view}
use Rattle.ospf_failures.specs.Json.{sight_data}
use Rattle.ospf_failures.proofs.overall.routes_value.Given as goal

-- those so far
abbrev pub invariant-loop-sight : goal.invariant-loop-sight
invariant-loop-sight l = map view l.routes.items ≡ flat_map sight_data (take l.sight-index l.sights)
