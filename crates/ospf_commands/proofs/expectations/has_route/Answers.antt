use Rattle.std.proofs.Common.{refl}
use Rattle.std.proofs.lemmas.Bool.{iff_false}
use Rattle.std.proofs.lemmas.List.{nil_from_length}
use Rattle.ospf_commands.specs.Expectations.{IsRouteAt}
use Rattle.ospf_commands.proofs.Among.{any_behind, any_first, any_none}
use Rattle.ospf_commands.proofs.expectations.has_route.Goals as goal

pub loop-route-init : goal.loop-route-init
loop-route-init c = ((λ h. h), λ h. h)

pub loop-route-preserved : goal.loop-route-preserved
loop-route-preserved c =
    any_behind (IsRouteAt c.args.prefix c.args.cost c.args.hops.now) c.args.routes.now c.loop-route.rest.now c.in-Some.behind.now c.in-Some.route.now c.loop-route.invariant c.in-Some.ensures.cases.0
    (iff_false c.is_route_at.ensures c.if-is_route_at.false)

pub returns-then-is_route_at : goal.returns-then-is_route_at
returns-then-is_route_at c =
    let here = any_first (IsRouteAt c.args.prefix c.args.cost c.args.hops.now) c.args.routes.now c.loop-route.rest.now c.in-Some.behind.now c.in-Some.route.now c.loop-route.invariant c.in-Some.ensures.cases.0
    (c.is_route_at.ensures.0 c.if-is_route_at.true) in
    ((λ t. here), λ h. refl)

pub returns : goal.returns
returns c =
    ((λ t. absurd (cc t)), λ h. absurd (any_none (IsRouteAt c.args.prefix c.args.cost c.args.hops.now) c.loop-route.rest.now (nil_from_length c.loop-route.rest.now c.in_default.ensures.cases) (c.loop-route.invariant.0 h)))
