use Rattle.std.proofs.Common.{◌≡◌, map, take}
use Rattle.serde_json.specs.View.{view}
use Rattle.ospf_inspect.specs.Tables.{route_data}
use Rattle.ospf_inspect.proofs.tables.routes_value.Given as goal

-- those so far
abbrev pub invariant-loop-route : goal.invariant-loop-route
invariant-loop-route l = map view l.items.items ≡ map route_data (take l.route-index l.routes)
