use Rattle.std.proofs.Common.{◌↔◌, Any, length}
use Rattle.ospf_commands.specs.Expectations.{IsRouteAt}
use Rattle.ospf_commands.proofs.expectations.has_route.Given as goal

-- there is one among all where there is one among the rest
abbrev pub invariant-loop-route : goal.invariant-loop-route
invariant-loop-route l = Any (IsRouteAt l.prefix l.cost l.hops) l.routes ↔ Any (IsRouteAt l.prefix l.cost l.hops) l.rest

abbrev pub decreases-loop-route : goal.decreases-loop-route
decreases-loop-route l = length l.rest
