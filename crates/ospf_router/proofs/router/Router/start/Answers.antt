use Rattle.std.proofs.Common.{◌≤◌, ◌∙◌, List, ap, length, subst, sym, arith}
use Rattle.ospf_area.specs.State.{AreaValue}
use Rattle.ospf_graph.specs.declared.route.Route.{Route}
use Rattle.ospf_router.specs.Routes.{RoutesValue}
use Rattle.ospf_router.specs.Routes.{AreRoutes}
use Rattle.ospf_router.proofs.StartLemmas.{area_fit, area_sound, as_many, start_lists, start_routes}
use Rattle.ospf_router.proofs.router.Router.start.Goals as goal

pub invariant_of-result : goal.invariant_of-result
invariant_of-result c =
    let config = c.args.config.now in
    let is = c.in-Ok.ensures in
    let many = config.interfaces.ok.0 in
    let most = config.few_interfaces in
    let count : length config.interfaces.items ≤ 32 = omega (arith, many, most) in
    let stubs = config.stubs.ok.0 in
    let few_stubs = config.few_stubs in
    let few : length config.stubs.items ≤ 63 = omega (arith, stubs, few_stubs) in
    let same = as_many config.router_id config.interfaces.items c.in-Ok.area.links is.links in
    let len = c.len.ensures in (
      record {
        kept = record {
          fit = area_fit c.starts_sound.ensures config c.args.dd_start _ c.in-Ok.area is count few;
          sound = area_sound config c.args.dd_start _ c.in-Ok.area is;
        };
        has_routes = subst (λ (t : List Route). AreRoutes c.in-Ok.area.router c.in-Ok.area.database t) (sym (ap (λ (r : RoutesValue). r.table) c.new.ensures)) (start_routes config c.args.dd_start _ c.in-Ok.area is);
        listing = start_lists config c.args.dd_start _ c.in-Ok.area is c.new.result (ap (λ (r : RoutesValue). r.listing) c.new.ensures);
        as_many = omega (arith, many, same, len);
      },
      ap (λ (r : RoutesValue). r.router) c.new.ensures ∙ sym (ap (λ (s : AreaValue). s.router) is.rest),
    )
