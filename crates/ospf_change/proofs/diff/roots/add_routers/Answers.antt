use Rattle.std.proofs.Common.{◌≡◌, ◌≤◌, List, length, subst, arith, sym, refl}
use Rattle.std.specs.List.{Contains}
use Rattle.std.proofs.lemmas.List.{take_all}
use Rattle.ospf_base.specs.declared.ids.RouterId.{RouterId}
use Rattle.ospf_graph.specs.Adds.{Adds}
use Rattle.ospf_graph.proofs.EdgeLists.AddsLemmas.{adds_as, adds_next, adds_start}
use Rattle.ospf_whatif.specs.Single.{GivenBy}
use Rattle.ospf_whatif.specs.declared.failure.AreaFailure.{AreaFailure}
use Rattle.ospf_whatif.specs.declared.failure.AreaFailure.TheVariants.{Router}
use Rattle.ospf_change.proofs.diff.roots.add_routers.Goals as goal

abbrev IsIt : AreaFailure → RouterId → Type 0
IsIt e r = e ≡ Router r

pub loop-element-init : goal.loop-element-init
loop-element-init c = adds_start IsIt c.args.routers.now.items

pub loop-element-preserved : goal.loop-element-preserved
loop-element-preserved c =
    adds_next IsIt c.args.elements.now c.loop-element.element-index c.element-item.result c.args.routers.now.items c.loop-element.routers.items c.add_router.new.routers.items
    c.loop-element-test.true c.element-item.is c.loop-element.invariant c.in_ok-add_router.ensures

pub returns : goal.returns
returns c =
    let end : length c.args.elements.now ≤ c.loop-element.element-index = omega (arith, c.loop-element-test.false) in
    let all : Adds (GivenBy IsIt c.args.elements.now) c.args.routers.now.items c.loop-element.routers.items =
    subst (λ (l : List AreaFailure). Adds (GivenBy IsIt l) c.args.routers.now.items c.loop-element.routers.items)
    (take_all c.loop-element.element-index c.args.elements.now end) c.loop-element.invariant in
    adds_as (GivenBy IsIt c.args.elements.now) (λ r. Contains c.args.elements.now (Router r)) c.args.routers.now.items c.loop-element.routers.items
    (λ r. ((λ g. subst (Contains c.args.elements.now) g.2 g.1), (λ h. (Router r, h, refl)))) all
