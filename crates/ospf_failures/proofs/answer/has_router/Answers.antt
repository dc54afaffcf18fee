use Rattle.std.proofs.Common.{◌≡◌, ◌≤◌, length, refl, subst, arith}
use Rattle.ospf_base.specs.declared.ids.Kind.TheVariants as kind
use Rattle.ospf_lsa.specs.Lsa.{IsNetworkLsa, IsRouterLsa}
use Rattle.ospf_failures.proofs.RouterLemmas.{network_else, no_router_at_start, no_router_more, no_router_of_all, router_here}
use Rattle.ospf_failures.proofs.answer.has_router.Goals as goal

pub loop-lsa-init : goal.loop-lsa-init
loop-lsa-init c = no_router_at_start c.lsas-lsa-items.result.now

pub returns-in-Router : goal.returns-in-Router
returns-in-Router c =
    let router : IsRouterLsa c.lsa-item.result = subst IsRouterLsa c.view.ensures.same (c.kind.ensures.router c.in-Router.is) in (
      λ yes. router_here c.lsas-lsa-items.result.now c.loop-lsa.lsa-index c.lsa-item.result c.loop-lsa-test.true c.lsa-item.is c.args.listing.now c.lsas-lsa-items.ensures.lsas router,
      λ has. refl,
    )

pub loop-lsa-preserved : goal.loop-lsa-preserved
loop-lsa-preserved c =
    let is : c.kind.result ≡ kind.Network = network_else c.kind.result c.in_default.not-Router in
    let network : IsNetworkLsa c.lsa-item.result = subst IsNetworkLsa c.view.ensures.same (c.kind.ensures.network is) in
    no_router_more c.lsas-lsa-items.result.now c.loop-lsa.lsa-index c.lsa-item.result c.loop-lsa-test.true c.lsa-item.is c.loop-lsa.invariant network

pub returns : goal.returns
returns c =
    let end : length c.lsas-lsa-items.result.now ≤ c.loop-lsa.lsa-index = omega (arith, c.loop-lsa-test.false) in (
      λ yes. cc,
      λ has. absurd (no_router_of_all c.lsas-lsa-items.result.now c.args.listing.now c.loop-lsa.lsa-index end c.lsas-lsa-items.ensures.lsas c.loop-lsa.invariant has),
    )
