use Rattle.std.proofs.Common.{◌≡◌, map, take}
use Rattle.serde_json.specs.View.{view}
use Rattle.ospf_table.specs.Values.{route_object}
use Rattle.ospf_table.proofs.values.routes_value.Given as goal

-- those so far
abbrev pub invariant-loop-route : goal.invariant-loop-route
invariant-loop-route l = map view l.items.items ≡ map route_object (take l.route-index l.routes)
