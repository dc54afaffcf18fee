-- Routes of a world's routers, and walks along their next hops.
use Rattle.std.specs.Prelude.{◌≡◌, ◌≢◌, ◌⊎◌, ◌+◌, ◌++◌, ◌%◌, ◌<◌, ℕ, zero, suc, List, [], ◌∷◌, Option, None, Some, length, slice_get, Contains, AllPairs}
use Rattle.ospf_base.specs.Prefixes.{Holds}
use Rattle.ospf_base.specs.declared.ids.RouterId.{RouterId}
use Rattle.ospf_graph.specs.Advertisements.{Advertisement, IsListed}
use Rattle.ospf_graph.specs.Walk.{IsBest, IsLinkCost, IsNext, IsReachedFrom, IsWalkStep, listed_routers}
use Rattle.ospf_graph.specs.Walk as graph
use Rattle.ospf_graph.specs.declared.hop.NextHop.{NextHop}
use Rattle.ospf_graph.specs.declared.hop.NextHop.TheVariants.{Attached}
use Rattle.ospf_graph.specs.declared.route.Route.{Route}
use Rattle.ospf_graph.specs.EdgeLists.Listed.{advertisements_of}
pub use Rattle.ospf_world.specs.declared.walk.WalkEnd.{WalkEnd}
use Rattle.ospf_world.specs.declared.walk.WalkEnd.TheVariants.{Arrived, NoRoute, NotRunning, Turns}
use Rattle.ospf_world.specs.Listings.{ListTheSame}
use Rattle.ospf_world.specs.World.{World, Running, router_at, listing}

-- what the router's listing says
abbrev pub adverts : Running → List Advertisement
adverts x = advertisements_of (listing x)

-- its table, where it runs
abbrev pub table_in : Option Running → List Route
table_in None = []
table_in (Some x) = x.table

-- the routers' tables. One that does not run has no route
abbrev pub table_at : World → RouterId → List Route
table_at w r = table_in (router_at w r)

-- each router whose router-LSA is listed by x runs, and lists the same instances
abbrev pub AllListedAgree : World → Running → Type 0
AllListedAgree w x =
    (r : RouterId) → IsListed (adverts x) r
    → (y : Running) × (router_at w r ≡ Some y) × ListTheSame (listing x) (listing y)

-- of a, which runs as x: each router that a reaches in what x lists runs, and lists the same
-- instances. A router that stopped may still be listed, until its LSA reaches MaxAge
abbrev pub AllReachedAgree : World → RouterId → Running → Type 0
AllReachedAgree w a x =
    (r : RouterId) → IsListed (adverts x) r → IsReachedFrom (adverts x) a r
    → (y : Running) × (router_at w r ≡ Some y) × ListTheSame (listing x) (listing y)

-- ---- walks, for every choice at every router

-- one step: router a runs, and some hop of its best route for the address names b, at the
-- link's cost in a's own listing
pub record StepsOn (w : World) (address : ℕ) (a b : RouterId) (cost : ℕ) : Type 0 where
  pub running : Running
  pub runs : router_at w a ≡ Some running
  pub step : IsWalkStep (adverts running) (table_at w) address a b cost

-- a walk from a through these routers, as far as it has got: to b, with what its links cost
abbrev pub WalksOn : World → ℕ → RouterId → List RouterId → RouterId → ℕ → Type 0
WalksOn w address a [] b paid = (a ≡ b) × (paid ≡ 0)
WalksOn w address a (c ∷ rest) b paid =
    (cost left : ℕ) × StepsOn w address a c cost × WalksOn w address c rest b left
    × (paid ≡ cost + left)

-- where a walk is that began with the first route: router b runs, and its best route is to the
-- same prefix. What the walk has paid and the cost of b's route make the cost of the first one.
-- Each of the hops of b's route is `Attached`, where the walk ends, or leads to a router that
-- runs
pub record StandsOnWay (w : World) (address : ℕ) (first : Route) (b : RouterId) (paid : ℕ)
    : Type 0 where
  pub running : Running
  pub runs : router_at w b ≡ Some running
  pub route : Route
  pub best : IsBest running.table address route
  pub same_prefix : route.prefix ≡ first.prefix
  pub cost_left : paid + route.cost ≡ first.cost
  pub has_hop : 0 < length route.hops
  pub goes_on : (hop : NextHop) → Contains route.hops hop →
      (hop ≡ Attached)
      ⊎ ((c : RouterId) × (cost : ℕ) × IsNext hop c × IsLinkCost (adverts running) b hop cost
      × (y : Running) × (router_at w c ≡ Some y))

-- there are further routers, maybe none, by which the walk continues from
-- where it is and arrives
pub record GoesOnToEnd (w : World) (address : ℕ) (a : RouterId) (first : Route)
    (routers : List RouterId) : Type 0 where
  pub more : List RouterId
  pub last : RouterId
  pub total : ℕ
  pub walk : WalksOn w address a (routers ++ more) last total
  pub arrives : graph.Arrives (table_at w) address first last total

-- what is true of a walk from a, which runs as x: it is on the path of the first route, meets no
-- router twice, has fewer steps than x lists router-LSAs, and can continue until it arrives
pub record StaysOnWay (w : World) (x : Running) (address : ℕ) (a : RouterId) (first : Route)
    (routers : List RouterId) (b : RouterId) (paid : ℕ) : Type 0 where
  pub stands : StandsOnWay w address first b paid
  pub once : AllPairs (λ q r. q ≢ r) (a ∷ routers)
  pub short : length routers < length (listed_routers (adverts x))
  pub ends : GoesOnToEnd w address a first routers

-- of one router that runs as x: each walk from it, as far as it has got, stays on
-- the prefix of its best route, meets no router twice, and can continue until it
-- arrives, with that route's cost paid
abbrev pub RunningWalksArrive : World → RouterId → Running → Type 0
RunningWalksArrive w a x = (address : ℕ) (first : Route) → IsBest x.table address first →
    (routers : List RouterId) (b : RouterId) (paid : ℕ) → WalksOn w address a routers b paid →
    StaysOnWay w x address a first routers b paid

-- ---- the walk of a list of choices

-- the choice at the first router: 0 where one is missing
abbrev pub choice_of : List ℕ → ℕ
choice_of [] = 0
choice_of (c ∷ choices) = c

-- those at the routers after it
abbrev pub other_choices : List ℕ → List ℕ
other_choices [] = []
other_choices (c ∷ choices) = choices

-- no route holds the address
abbrev pub HasNoRoute : List Route → ℕ → Type 0
HasNoRoute routes address = (route : Route) → Contains routes route → Holds route.prefix address → ⊥

-- the result of a walk at one router: the routers met from there, what is paid, and the end. GoesOn
-- says the same of the walk from the next router
pub data WalksBy (w : World) (address choice : ℕ)
    (GoesOn : RouterId → List RouterId → ℕ → WalkEnd → Type 0) (at : RouterId)
    (routers : List RouterId) (paid : ℕ) (end : WalkEnd) : Type 0 where
  Stops : router_at w at ≡ None → routers ≡ at ∷ [] → paid ≡ 0 → end ≡ NotRunning
      → WalksBy w address choice GoesOn at routers paid end
  Strays : (x : Running) → router_at w at ≡ Some x → HasNoRoute x.table address → routers ≡ at ∷ []
      → paid ≡ 0 → end ≡ NoRoute → WalksBy w address choice GoesOn at routers paid end
  Arrives : (x : Running) (route : Route) → router_at w at ≡ Some x → IsBest x.table address route
      → slice_get route.hops (choice % length route.hops) ≡ Some Attached → routers ≡ at ∷ []
      → paid ≡ route.cost → end ≡ Arrived → WalksBy w address choice GoesOn at routers paid end
  Hops : (x : Running) (route : Route) (hop : NextHop) (next : RouterId) (link : ℕ)
      (rest : List RouterId) (left : ℕ) → router_at w at ≡ Some x → IsBest x.table address route
      → slice_get route.hops (choice % length route.hops) ≡ Some hop → IsNext hop next
      → IsLinkCost (adverts x) at hop link → GoesOn next rest left end → routers ≡ at ∷ rest
      → paid ≡ link + left → WalksBy w address choice GoesOn at routers paid end

-- a walk of at most this many hops: at each router by the hop of its best route at the
-- chosen place, modulo how many hops that route has; a missing choice is 0
abbrev pub IsWalkOf : World → ℕ → ℕ → List ℕ → RouterId → List RouterId → ℕ → WalkEnd → Type 0
IsWalkOf w address zero choices at routers paid end =
    (routers ≡ at ∷ []) × (paid ≡ 0) × (end ≡ Turns)
IsWalkOf w address (suc left) choices at routers paid end =
    WalksBy w address (choice_of choices) (IsWalkOf w address left (other_choices choices)) at
    routers paid end

-- the result of a walk that may have as many hops as the world has routers
abbrev pub WorldWalk : World → ℕ → List ℕ → RouterId → List RouterId → ℕ → WalkEnd → Type 0
WorldWalk w address choices at routers paid end =
    IsWalkOf w address (length w.routers) choices at routers paid end

-- the walk has arrived on the prefix of its first route, has paid that
-- route's cost, and met no router twice
pub record HasArrived (w : World) (address : ℕ) (first : Route) (at : RouterId)
    (routers : List RouterId) (paid : ℕ) (end : WalkEnd) : Type 0 where
  pub arrived : end ≡ Arrived
  pub cost : paid ≡ first.cost
  pub apart : AllPairs (λ q r. q ≢ r) routers
  pub rest : List RouterId
  pub routers_are : routers ≡ at ∷ rest
  pub last : RouterId
  pub links_paid : ℕ
  pub walk : WalksOn w address at rest last links_paid
  pub ends_there : StandsOnWay w address first last links_paid

-- of one router that runs as x: whatever hops are chosen, each walk from it arrives
abbrev pub ChosenWalksArrive : World → RouterId → Running → Type 0
ChosenWalksArrive w a x = (address : ℕ) (first : Route) → IsBest x.table address first →
    (choices : List ℕ) (routers : List RouterId) (paid : ℕ) (end : WalkEnd)
    → WorldWalk w address choices a routers paid end → HasArrived w address first a routers paid end
