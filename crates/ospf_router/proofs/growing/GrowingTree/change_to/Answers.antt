use Rattle.std.proofs.Common.{rules, ◌≡◌, ◌↔◌, ℕ, Option, Some, IfNone, IfSome, List, refl, subst, sym}
use Rattle.std.specs.List.{Contains}
use Rattle.ospf_graph.specs.EdgeLists.Listed.{advertisements_of}
use Rattle.ospf_graph.specs.declared.edges.end.End.{End}
use Rattle.ospf_graph.proofs.WalkLaw.{has_hop}
use Rattle.ospf_graph.specs.Advertisements.{IsListed}
use Rattle.ospf_graph.specs.Routes.{IsEnd, IsRoute, Way}
use Rattle.ospf_graph.specs.Search.{AtIn}
use Rattle.ospf_graph.specs.declared.graph.Vertex.{Vertex}
use Rattle.ospf_graph.specs.declared.route.Route.{Route}
use Rattle.ospf_spf.specs.Reach.{IsRouteBy}
use Rattle.ospf_router.specs.Growing.{GrowingValue}
use Rattle.ospf_spf.specs.Reach.{IsReachOf}
use Rattle.ospf_spf.specs.declared.routes.Reach.{Reach}
use Rattle.ospf_router.proofs.GrowingLemmas.{own_tree}
use Rattle.ospf_spf.proofs.TableOf.{no_way, route_is}
use Rattle.ospf_router.proofs.growing.GrowingTree.change_to.Goals as goal
use Rattle.ospf_router.proofs.growing.GrowingTree.change_to.Goals.{In_ok-found}

-- of the ends that are taken, those to the prefix are all of it
ends_are : (c : In_ok-found) (v : Vertex) (d k : ℕ) → AtIn c.self.inside.paths.settled v d
    → Contains c.ends_to.result.now (record { prefix = c.args.prefix; vertex = v; cost = k }) ↔ IsEnd (advertisements_of c.self.inside.listing) c.args.prefix v k
ends_are c v d k at =
    let e : End = record { prefix = c.args.prefix; vertex = v; cost = k } in
    let all = c.self.invariant.ends_are e in (
      λ m. all.0 (subst (λ (es : List End). Contains es e) c.deref.ensures.value (c.ends_to.ensures.part e m)),
      λ is. c.ends_to.ensures.all e (subst (λ (es : List End). Contains es e) (sym c.deref.ensures.value) (all.1 is)) refl,
    )

listed : (c : In_ok-found) → IsListed (advertisements_of c.self.inside.listing) c.self.inside.root
listed c = c.is_listed.ensures.0 (search rules)

exact : (c : In_ok-found) (route : Route) → c.in_ok-found.found ≡ Some route → IsRoute (advertisements_of c.self.inside.listing) c.self.inside.root route
exact c route is =
    let t = c.self.inside in
    let by : IsRouteBy c.ends_to.result.now t.paths.settled t.paths.starts route =
    subst (λ (o : Option Route). IfSome o (λ r. IsRouteBy c.ends_to.result.now t.paths.settled t.paths.starts r)) is c.in_ok-found.ensures.route in
    route_is (advertisements_of t.listing) t.root c.ends_to.result.now t.paths.settled t.paths.starts by.reaches (listed c) (own_tree t.root t.listing t.paths t.ends.items c.self.invariant)
    by.reaches_are c.args.prefix (ends_are c) route (subst (λ (o : Option Route). IfSome o (λ r. r.prefix ≡ c.args.prefix)) is c.in_ok-found.ensures.prefix) by.route_is

pub returns-in-Some-clause-right : goal.returns-in-Some-clause-right
returns-in-Some-clause-right c =
    subst (λ (v : GrowingValue). IsRoute (advertisements_of v.listing) v.root c.in-Some.route) c.self.view_is (exact (goal.at.returns-in-Some-clause-right c).In_ok-found c.in-Some.route c.in-Some.is)

pub returns-in-Some-clause-hops : goal.returns-in-Some-clause-hops
returns-in-Some-clause-hops c =
    has_hop (advertisements_of c.self.inside.listing) c.self.inside.root c.in-Some.route (exact (goal.at.returns-in-Some-clause-hops c).In_ok-found c.in-Some.route c.in-Some.is)

pub returns-in-None-clause-right : goal.returns-in-None-clause-right
returns-in-None-clause-right c =
    let d = (goal.at.returns-in-None-clause-right c).In_ok-found in
    let t = c.self.inside in
    let none = subst (λ (o : Option Route). IfNone o ((r : Reach) → IsReachOf c.ends_to.result.now t.paths.settled r → r.prefix ≡ c.args.prefix → ⊥)) c.in-None.is c.in_ok-found.ensures.none in
    subst (λ (v : GrowingValue). Way (advertisements_of v.listing) v.root c.args.prefix → ⊥) c.self.view_is
    (no_way (advertisements_of t.listing) t.root c.ends_to.result.now t.paths.settled t.paths.starts (listed d) (own_tree t.root t.listing t.paths t.ends.items c.self.invariant) c.args.prefix (ends_are d) none)
