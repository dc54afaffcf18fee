use Rattle.std.proofs.Common.{◌≡◌, ◌↔◌, ℕ, List, Option, None, Some, IfNone, IfSome, sym, subst}
use Rattle.std.specs.List.{Contains}
use Rattle.ospf_base.specs.declared.ids.RouterId.{RouterId}
use Rattle.ospf_graph.specs.declared.edges.end.End.{End}
use Rattle.ospf_graph.specs.Advertisements.{Advertisement, IsListed}
use Rattle.ospf_graph.specs.Routes.{IsEnd, IsRoute, Way}
use Rattle.ospf_graph.specs.Search.{AtIn}
use Rattle.ospf_graph.specs.declared.graph.Vertex.{Vertex}
use Rattle.ospf_graph.specs.declared.route.Route.{Route}
use Rattle.ospf_spf.proofs.TableOf.{no_way, route_is}
use Rattle.ospf_spf.specs.Reach.{IsReachOf, IsRouteBy}
use Rattle.ospf_spf.specs.declared.routes.Reach.{Reach}
use Rattle.ospf_whatif.specs.Outage.{AreMissing, AreOverLeft, left_of_area}
use Rattle.ospf_whatif.proofs.EffectLemmas.{loss_here}
use Rattle.ospf_whatif.proofs.LessLemmas.{all_leave_listed}
use Rattle.ospf_whatif.proofs.OutageLemmas.{ends_here, false_true, told_here}
use Rattle.ospf_whatif.proofs.root.loss_of.Given.{Over}
use Rattle.ospf_whatif.proofs.root.loss_of.Goals as goal
use Rattle.ospf_whatif.proofs.root.loss_of.Goals.{In_ok-after}

module _ (g : Over) (c : In_ok-after g) (adverts : List Advertisement) (root : RouterId) (over : AreOverLeft adverts root c.args.area.now c.args.outage.now (g.P.Paths.kept c.args.paths.now))
    (was : IsRoute adverts root c.args.route.now) where
  abbrev left : List Advertisement
  left = left_of_area adverts c.args.outage.now

  part_in : (e : End) → Contains c.ends_to.result.now e → Contains c.args.area.now.ends.items e
  part_in e m = subst (λ (es : List End). Contains es e) c.deref.ensures.value (c.ends_to.ensures.part e m)

  part_all : (e : End) → Contains c.args.area.now.ends.items e → e.prefix ≡ c.args.route.now.prefix → Contains c.ends_to.result.now e
  part_all e m of = c.ends_to.ensures.all e (subst (λ (es : List End). Contains es e) (sym c.deref.ensures.value) m) of

  missing : AreMissing c.ends_to.result.now c.args.outage.now.ends.items c.in_ok-ends.ends.items
  missing = subst (λ (es : List End). AreMissing c.ends_to.result.now es c.in_ok-ends.ends.items) c.deref-2.ensures.value c.in_ok-ends.ensures

  ends_are : (v : Vertex) (d k : ℕ) → AtIn (g.P.Paths.kept c.args.paths.now).settled v d
      → Contains c.deref-3.result.now (record { prefix = c.args.route.now.prefix; vertex = v; cost = k }) ↔ IsEnd left c.args.route.now.prefix v k
  ends_are v d k at =
      subst (λ (es : List End). Contains es (record { prefix = c.args.route.now.prefix; vertex = v; cost = k }) ↔ IsEnd left c.args.route.now.prefix v k) (sym c.deref-3.ensures.value)
      (ends_here adverts c.args.outage.now over.outage_is c.args.area.now over.graph c.args.route.now.prefix c.ends_to.result.now c.in_ok-ends.ends.items part_in part_all missing v k)

  listed : IsListed left root
  listed = (all_leave_listed c.args.outage.now.failures.items adverts root).0 was.way.listed

  exact : (after : Route) → c.in_ok-after.after ≡ Some after → IsRoute left root after
  exact after is =
      let by : IsRouteBy c.deref-3.result.now (g.P.Paths.kept c.args.paths.now).settled (g.P.Paths.kept c.args.paths.now).starts after =
      subst (λ (o : Option Route). IfSome o (λ r. IsRouteBy c.deref-3.result.now (g.P.Paths.kept c.args.paths.now).settled (g.P.Paths.kept c.args.paths.now).starts r)) is c.in_ok-after.ensures.route in
      route_is left root c.deref-3.result.now (g.P.Paths.kept c.args.paths.now).settled (g.P.Paths.kept c.args.paths.now).starts by.reaches listed over.tree by.reaches_are c.args.route.now.prefix ends_are after
      (subst (λ (o : Option Route). IfSome o (λ r. r.prefix ≡ c.args.route.now.prefix)) is c.in_ok-after.ensures.prefix) by.route_is

  none : c.in_ok-after.after ≡ None → Way left root c.args.route.now.prefix → ⊥
  none is =
      no_way left root c.deref-3.result.now (g.P.Paths.kept c.args.paths.now).settled (g.P.Paths.kept c.args.paths.now).starts listed over.tree c.args.route.now.prefix ends_are
      (subst (λ (o : Option Route). IfNone o ((r : Reach) → IsReachOf c.deref-3.result.now (g.P.Paths.kept c.args.paths.now).settled r → r.prefix ≡ c.args.route.now.prefix → ⊥)) is c.in_ok-after.ensures.none)

pub returns-in-Some : goal.returns-in-Some
returns-in-Some g c = λ adverts root over was.
    let d = (goal.at.returns-in-Some g c).In_ok-after in
    let same = subst (λ (o : Option Route). IfSome o (λ r. r.prefix ≡ c.args.route.now.prefix)) c.in-Some.is c.in_ok-after.ensures.prefix in
    loss_here c.args.outage.now.failures.items adverts root c.args.route.now c.in-Some.after was (exact g d adverts root over was c.in-Some.after c.in-Some.is) (sym same) c.loss_by.result c.loss_by.ensures

pub returns-then-is_told : goal.returns-then-is_told
returns-then-is_told g c = λ adverts root over was.
    let d = (goal.at.returns-then-is_told g c).In_ok-after in
    let both = told_here adverts c.args.outage.now over.outage_is c.args.area.now over.graph c.args.route.now.prefix c.ends_to.result.now c.in_ok-ends.ends.items
    (part_in g d adverts root over was) (part_all g d adverts root over was) (missing g d adverts root over was) c.is_told.result
    (rw c.deref-in-None.ensures.value at c.is_told.ensures adverts over.graph over.outage_is) in
    (none g d adverts root over was c.in-None.is, both.0 c.if-is_told.true)

pub returns : goal.returns
returns g c = λ adverts root over was.
    let d = (goal.at.returns g c).In_ok-after in
    let both = told_here adverts c.args.outage.now over.outage_is c.args.area.now over.graph c.args.route.now.prefix c.ends_to.result.now c.in_ok-ends.ends.items
    (part_in g d adverts root over was) (part_all g d adverts root over was) (missing g d adverts root over was) c.is_told.result
    (rw c.deref-in-None.ensures.value at c.is_told.ensures adverts over.graph over.outage_is) in
    (none g d adverts root over was c.in-None.is, (λ t. false_true c.is_told.result c.if-is_told.false (both.1 t)))
