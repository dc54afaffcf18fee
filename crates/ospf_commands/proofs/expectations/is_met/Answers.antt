use Rattle.std.proofs.Common.{◌≡◌, ◌↔◌, ◌∙◌, Any}
use Rattle.std.specs.Bool.{IsTrue}
use Rattle.ospf_commands.specs.Expectations.{IsRouteAt}
use Rattle.ospf_commands.proofs.expectations.is_met.Goals as goal

pub returns-in-Route : goal.returns-in-Route
returns-in-Route c =
    let routes : c.routes.result.now ≡ c.args.router.now.table = c.routes.ensures.routes ∙ c.table.ensures in
    let has : IsTrue c.has_route.result ↔ Any (IsRouteAt c.in-Route.prefix c.in-Route.cost c.in-Route.hops.items) c.args.router.now.table =
    rw (c.deref.ensures.value, routes) at c.has_route.ensures in
    rw c.in-Route.is has
