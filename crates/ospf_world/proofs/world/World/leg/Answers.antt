use Rattle.std.proofs.Common.{◌%◌, [], List, length, refl, subst}
use Rattle.ospf_graph.specs.Walk.{IsBest}
use Rattle.ospf_graph.specs.declared.route.Route.{Route}
use Rattle.ospf_world.specs.Walks.{HasNoRoute}
use Rattle.ospf_router.specs.Steps.{is_dropped}
use Rattle.ospf_world.specs.Legs.{IsLeg}
use Rattle.ospf_world.specs.Worlds.{world_of}
use Rattle.ospf_world.proofs.LegFacts.{here_linked, leg_goes, leg_stops, lends_err, lends_ok}
use Rattle.ospf_world.proofs.world.World.leg.Goals as goal

pub returns-in_default : goal.returns-in_default
returns-in_default c = IsLeg.Stops (lends_err (world_of c.args.self.now) c.args.at c.router.result c.in_default.field-0 c.router.ensures c.in_default.is) refl

pub returns-in_default-lookup : goal.returns-in_default-lookup
returns-in_default-lookup c =
    let here = lends_ok (world_of c.args.self.now) c.args.at c.router.result c.in-Ok.router c.router.ensures c.in-Ok.is in
    let none = subst (λ (t : List Route). HasNoRoute t c.args.address.0) c.table.ensures c.in_default-lookup.ensures.none in
    IsLeg.Strays here.x here.runs (leg_stops (world_of c.args.self.now) c.args.address.0 c.args.choice c.args.at c.in-Ok.router.now here none) refl

pub leg_over-requires : goal.leg_over-requires
leg_over-requires c =
    let w = world_of c.args.self.now in
    let here = lends_ok w c.args.at c.router.result c.in-Ok.router c.router.ensures c.in-Ok.is in
    let law = c.headline.ensures is_dropped [] w w c.reached.ensures refl in
    let best = subst (λ (t : List Route). IsBest t c.args.address.0 c.in-Some.route.now) c.table.ensures c.in-Some.ensures.found in
    here_linked w c.args.at c.in-Ok.router.now here c.args.address.0 (c.args.choice % length c.in-Some.route.now.hops) c.in-Some.route.now c.hop_in-hop.result (law.tables c.args.at here.x here.runs) best c.hop_in-hop.ensures

pub returns : goal.returns
returns c =
    let w = world_of c.args.self.now in
    let here = lends_ok w c.args.at c.router.result c.in-Ok.router c.router.ensures c.in-Ok.is in
    let best = subst (λ (t : List Route). IsBest t c.args.address.0 c.in-Some.route.now) c.table.ensures c.in-Some.ensures.found in
    leg_goes w c.args.address.0 c.args.choice c.args.at c.in-Ok.router.now here c.in-Some.route.now c.hop_in-hop.result c.leg_over.result best c.hop_in-hop.ensures c.leg_over.ensures
