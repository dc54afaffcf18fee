use Rattle.std.proofs.Common.{List, rules, subst}
use Rattle.ospf_graph.specs.Advertisements.{Advertisement}
use Rattle.ospf_graph.specs.Walk.{IsLinkCost}
use Rattle.ospf_router.specs.Routers.{listing_of}
use Rattle.ospf_world.specs.Legs.{LegsOver}
use Rattle.ospf_world.proofs.LegFacts.{not_linked}
use Rattle.ospf_world.proofs.walk.crossing.Goals as goal

pub unreachable-requires : goal.unreachable-requires
unreachable-requires c = not_linked c.args.at c.args.hop.now (listing_of c.args.router.now.area) (c.kept_listing.ensures.none c.in_default.is) c.requires.linked

pub returns : goal.returns
returns c =
    λ paid. LegsOver.There c.args.next c.in-Some-link_cost.cost c.requires.next (subst (λ (A : List Advertisement). IsLinkCost A c.args.at c.args.hop.now c.in-Some-link_cost.cost) c.in-Some.ensures.told c.in-Some-link_cost.ensures.cost) (search rules)
