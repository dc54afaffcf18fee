use Rattle.std.proofs.Common.{◌≡◌, ◌++◌, map, take}
use Rattle.ospf_journal.specs.Changes.{route_change}
use Rattle.ospf_journal.proofs.told.push_routes.Given as goal

abbrev pub invariant-loop-route : goal.invariant-loop-route
invariant-loop-route l = l.changes.items ≡ l.initial.changes.items ++ map route_change (take l.route-index l.routes)
