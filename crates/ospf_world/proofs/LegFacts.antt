-- What a walk does at one router.
use Rattle.std.proofs.Common.{◌≡◌, ◌≢◌, ◌%◌, ℕ, List, Option, None, Some, Result, Ok, Err, length, slice_get, refl, sym, ap, subst, ◌∙◌, inl, inr}
use Rattle.std.specs.Prelude.{[], option_and_then}
use Rattle.std.specs.List.{Contains}
use Rattle.std.specs.Borrow.{Bor}
use Rattle.ospf_area.specs.State.{AreaValue}
use Rattle.ospf_base.specs.declared.ids.RouterId.{RouterId}
use Rattle.ospf_graph.specs.EdgeLists.Listed.{advertisements_of}
use Rattle.ospf_graph.proofs.WalkSteps.{onward_of}
use Rattle.ospf_router.proofs.AreaStep.StateFacts.{Contains-nil}
use Rattle.ospf_graph.specs.Advertisements.{Advertisement}
use Rattle.ospf_graph.specs.Routes.{IsHop, IsRoute, IsTable}
use Rattle.ospf_graph.specs.Walk.{HasLinkFor, IsBest}
use Rattle.ospf_graph.specs.declared.hop.NextHop.{NextHop}
use Rattle.ospf_graph.specs.declared.hop.NextHop.TheVariants as hops
use Rattle.ospf_graph.specs.declared.route.Route.{Route}
use Rattle.ospf_world.specs.Walks.{HasNoRoute, adverts}
use Rattle.ospf_world.specs.World.{Member, Running, World, router_at}
use Rattle.ospf_base.specs.declared.event.event.WorldFault.{WorldFault}
use Rattle.ospf_router.specs.Routers.{RouterValue, listing_of}
use Rattle.ospf_world.specs.declared.walk.Leg.{Leg}
use Rattle.ospf_world.specs.Legs.{IsLeg, LegsOver}
use Rattle.ospf_world.specs.Worlds.{Lends}
use Rattle.std.proofs.lemmas.List.Elements.{All-contains}
use Rattle.ospf_world.proofs.ListFacts.{contains_at}

-- ---- the router that is lent

pub lends_err : (w : World) (r : RouterId) (result : Result (Bor RouterValue) WorldFault) (f : WorldFault) → Lends w r result → result ≡ Err f → router_at w r ≡ None
unfolding router_at
lends_err w r result f (Lends.Runs m x is ok lent) err = absurd (let h : Ok x ≡ Err f = sym ok ∙ err in cc)
lends_err w r result f (Lends.NoRouter is fails) err = ap (λ (o : Option Member). option_and_then (λ (m : Member). m.running) o) is
lends_err w r result f (Lends.NotRunning m is none fails) err = ap (λ (o : Option Member). option_and_then (λ (m : Member). m.running) o) is ∙ none

-- how it runs
pub record IsHere (w : World) (r : RouterId) (v : RouterValue) : Type 0 where
  pub x : Running
  pub runs : router_at w r ≡ Some x
  pub area : v.area ≡ Some x.state
  pub table : v.table ≡ x.table

pub lends_ok : (w : World) (r : RouterId) (result : Result (Bor RouterValue) WorldFault) (v : Bor RouterValue) → Lends w r result → result ≡ Ok v → IsHere w r v.now
unfolding router_at
lends_ok w r result v (Lends.Runs m x is ok lent) said =
    let same : x ≡ v = (let h : Ok x ≡ Ok v = sym ok ∙ said in cc) in
    subst (λ (y : Bor RouterValue). IsHere w r y.now) same record { x = lent.x; runs = ap (λ (o : Option Member). option_and_then (λ (m : Member). m.running) o) is ∙ lent.runs; area = lent.area; table = lent.table }
lends_ok w r result v (Lends.NoRouter is fails) said = absurd (let h = sym fails ∙ said in cc)
lends_ok w r result v (Lends.NotRunning m is none fails) said = absurd (let h = sym fails ∙ said in cc)

-- ---- hops have links

pub hop_linked : (A : List Advertisement) (a : RouterId) (table : List Route) (route : Route) (hop : NextHop) → IsTable A a table → Contains table route → Contains route.hops hop → hop ≢ hops.Attached → (m : ℕ) × HasLinkFor A a hop m
hop_linked A a table route hop is listed taken apart =
    let r : IsRoute A a route = All-contains (IsRoute A a) table route is.sound listed in
    let h : IsHop A a route.prefix hop = (r.hops hop).0 taken in
    elim (onward_of A a route.prefix h.way.path h.way.end h.way.end_cost h.way.leads h.way.ends) [
      | inl here ↦ absurd (apart (h.hop_is ∙ here))
      | inr on ↦ subst (λ (x : NextHop). (m : ℕ) × HasLinkFor A a x m) (sym h.hop_is) (on.cost, on.link)
    ]

-- in the listing of the router itself
pub here_linked : (w : World) (a : RouterId) (v : RouterValue) (here : IsHere w a v) (address choice : ℕ) (route : Route) (hop : NextHop) → IsTable (adverts here.x) a here.x.table → IsBest v.table address route → slice_get route.hops choice ≡ Some hop
    → hop ≢ hops.Attached → (m : ℕ) × HasLinkFor (advertisements_of (listing_of v.area)) a hop m
here_linked w a v here address choice route hop is best taken apart =
    let listed : Contains here.x.table route = subst (λ (t : List Route). Contains t route) here.table best.listed in
    subst (λ (o : Option AreaValue). (m : ℕ) × HasLinkFor (advertisements_of (listing_of o)) a hop m) (sym here.area)
    (hop_linked (adverts here.x) a here.x.table route hop is listed (contains_at route.hops choice hop taken) apart)

-- ---- legs

nothing_listed : advertisements_of [] ≡ []
unfolding advertisements_of
nothing_listed = refl

none_linked : (a : RouterId) (hop : NextHop) (m : ℕ) → HasLinkFor [] a hop m → ⊥
none_linked a hops.Attached m h = h
none_linked a (hops.PointToPoint local b) m h = Contains-nil _ h.0.listed
none_linked a (hops.Lan local b address) m h = Contains-nil _ h.2.0.listed

-- where nothing is listed nothing is linked
pub not_linked : (a : RouterId) (hop : NextHop) (lsas : List (List ℕ)) → lsas ≡ [] → ((m : ℕ) × HasLinkFor (advertisements_of lsas) a hop m) → ⊥
not_linked a hop lsas none linked = none_linked a hop linked.0 (subst (λ (A : List Advertisement). HasLinkFor A a hop linked.0) (ap advertisements_of none ∙ nothing_listed) linked.1)

pub leg_stops : (w : World) (address choice : ℕ) (at : RouterId) (v : RouterValue) (here : IsHere w at v) → HasNoRoute v.table address → HasNoRoute here.x.table address
leg_stops w address choice at v here none = subst (λ (t : List Route). HasNoRoute t address) here.table none

pub leg_goes : (w : World) (address choice : ℕ) (at : RouterId) (v : RouterValue) (here : IsHere w at v) (route : Route) (hop : NextHop) (leg : Leg) → IsBest v.table address route → slice_get route.hops (choice % length route.hops) ≡ Some hop
    → LegsOver (advertisements_of (listing_of v.area)) at hop route.cost leg → IsLeg w address choice at leg
leg_goes w address choice at v here route hop leg best taken h =
    IsLeg.Legs here.x route hop here.runs (subst (λ (t : List Route). IsBest t address route) here.table best) taken
    (subst (λ (o : Option AreaValue). LegsOver (advertisements_of (listing_of o)) at hop route.cost leg) here.area h)
