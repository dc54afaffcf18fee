-- What routes are made of: ends of prefixes that the shortest paths reach.
use Rattle.std.specs.Prelude.{◌≡◌, ◌+◌, ◌*◌, ◌<◌, ◌≤◌, ◌↔◌, ◌⊎◌, ⊤, ℕ, List, [], AllPairs, Contains, Option, Some, None, length, slice_index_or}
use Rattle.std.specs.List.Sorted.{IsNonDecreasingBy}
use Rattle.ospf_base.specs.declared.prefix.Prefix.{Prefix}
use Rattle.ospf_graph.specs.Advertisements.{Advertisement}
use Rattle.ospf_graph.specs.Hops.{IsHopBefore}
use Rattle.ospf_graph.specs.Routes.{IsEnd}
use Rattle.ospf_graph.specs.Search.{AtIn}
use Rattle.ospf_graph.specs.Tree.{hop_of_start}
use Rattle.ospf_graph.specs.declared.graph.Start.{Start}
use Rattle.ospf_graph.specs.declared.graph.Vertex.{Vertex}
use Rattle.ospf_graph.specs.declared.graph.Vertex.TheVariants.{Router, Network}
use Rattle.ospf_graph.specs.declared.hop.NextHop.{NextHop}
use Rattle.ospf_graph.specs.declared.paths.Settled.{Settled}
use Rattle.ospf_graph.specs.declared.paths.VertexStart.{VertexStart}
use Rattle.ospf_graph.specs.declared.route.Route.{Route}
use Rattle.ospf_graph.specs.declared.edges.end.End.{End}
use Rattle.ospf_spf.specs.declared.routes.Reach.{Reach}

-- the least cost of the reaches of a prefix
pub record IsBestCost (reaches : List Reach) (prefix : Prefix) (cost : ℕ) : Type 0 where
  pub end : Vertex
  pub attained : Contains reaches (record { prefix = prefix; vertex = end; cost = cost })
  pub least : (v : Vertex) (k : ℕ)
      → Contains reaches (record { prefix = prefix; vertex = v; cost = k }) → cost ≤ k

-- no reach of the prefix
abbrev pub HasNoReach : List Reach → Prefix → Type 0
HasNoReach reaches prefix =
    (v : Vertex) (k : ℕ) → Contains reaches (record { prefix = prefix; vertex = v; cost = k }) → ⊥

-- what is known of a least cost: there is no reach, or this is it
abbrev pub IsLeastReach : List Reach → Prefix → Option ℕ → Type 0
IsLeastReach reaches prefix None = HasNoReach reaches prefix
IsLeastReach reaches prefix (Some cost) = IsBestCost reaches prefix cost

-- both are networks, and the first has the larger Link State ID
abbrev pub IsLargerNetwork : Vertex → Vertex → Type 0
IsLargerNetwork (Network m) (Network n) = n < m
IsLargerNetwork (Network _) (Router _) = ⊥
IsLargerNetwork (Router _) _ = ⊥

-- a network of larger Link State ID at the same prefix and cost
abbrev pub Excludes : Reach → Reach → Type 0
Excludes a b = IsLargerNetwork a.vertex b.vertex × (a.prefix ≡ b.prefix) × (a.cost ≡ b.cost)

-- no reach excludes this one
abbrev pub IsChosenEnd : List Reach → Reach → Type 0
IsChosenEnd reaches end = (other : Reach) → Contains reaches other → Excludes other end → ⊥

-- a transit network of the prefix, at this cost
abbrev pub network_reach : Prefix → ℕ → ℕ → Reach
network_reach prefix n cost = record { prefix = prefix; vertex = Network n; cost = cost }

-- what is known of the networks of a prefix at a cost: there is none, or
-- this is the largest Link State ID
abbrev pub IsLargestOf : List Reach → Prefix → ℕ → Option ℕ → Type 0
IsLargestOf reaches prefix cost None = (n : ℕ) → Contains reaches (network_reach prefix n cost) → ⊥
IsLargestOf reaches prefix cost (Some id) =
    Contains reaches (network_reach prefix id cost)
    × ((n : ℕ) → Contains reaches (network_reach prefix n cost) → n ≤ id)

-- a router, or this network
abbrev pub IsRouterOr : Option ℕ → Vertex → Type 0
IsRouterOr _ (Router _) = ⊤
IsRouterOr None (Network _) = ⊥
IsRouterOr (Some id) (Network n) = n ≡ id

-- exactly the hops of P are added
abbrev pub GathersHops : (NextHop → Type 0) → List NextHop → List NextHop → Type 0
GathersHops P old new = (h : NextHop) → Contains new h ↔ (Contains old h ⊎ P h)

-- exactly the hops of P are added, in order
pub record AddsHops (P : NextHop → Type 0) (old new : List NextHop) : Type 0 where
  pub in_order : AllPairs IsHopBefore new
  pub members : (h : NextHop) → Contains new h ↔ (Contains old h ⊎ P h)

-- the hop of a start that the vertex has
abbrev pub HasHop : List VertexStart → Vertex → NextHop → Type 0
HasHop starts v h =
    (x : Start) × Contains starts (record { vertex = v; start = x }) × (h ≡ hop_of_start x)

-- the hop of a start of a chosen end of the prefix at this cost
abbrev pub HasHopOf : List Reach → List VertexStart → Prefix → ℕ → NextHop → Type 0
HasHopOf reaches starts prefix cost h =
    (end : Reach) × Contains reaches end × (end.prefix ≡ prefix) × (end.cost ≡ cost)
    × IsChosenEnd reaches end × HasHop starts end.vertex h

-- the reach of an end whose vertex is at this distance
abbrev pub reach_of : End → ℕ → Reach
reach_of e d = record { prefix = e.prefix; vertex = e.vertex; cost = d + e.cost }

-- as far as something is reached, the ends are those of the listing
abbrev pub AreEndsWithin : List Advertisement → List Settled → List End → Type 0
AreEndsWithin adverts settled ends =
    (e : End) (d : ℕ) → AtIn settled e.vertex d
    → Contains ends e ↔ IsEnd adverts e.prefix e.vertex e.cost

-- the reach of one of these ends
abbrev pub IsReachOf : List End → List Settled → Reach → Type 0
IsReachOf ends settled r =
    (e : End) × Contains ends e × (d : ℕ) × AtIn settled e.vertex d × (r ≡ reach_of e d)

-- the least cost, and the hops of the chosen ends at it
pub record IsRouteOf (reaches : List Reach) (starts : List VertexStart) (route : Route)
    : Type 0 where
  pub cost : IsBestCost reaches route.prefix route.cost
  pub hops : AddsHops (HasHopOf reaches starts route.prefix route.cost) [] route.hops

-- the least cost, and the hops of the chosen ends at it, of those of these ends that are reached
pub record IsRouteBy (ends : List End) (settled : List Settled) (starts : List VertexStart)
    (route : Route) : Type 0 where
  pub reaches : List Reach
  pub reaches_are : (r : Reach) → Contains reaches r ↔ IsReachOf ends settled r
  pub route_is : IsRouteOf reaches starts route

-- the place of a prefix in the order of prefixes
abbrev pub prefix_code : Prefix → ℕ
prefix_code p = p.address.0 * 64 + p.length

-- they are in the order of their prefixes
abbrev pub AreReachesInOrder : List Reach → Type 0
AreReachesInOrder reaches = IsNonDecreasingBy (λ r. prefix_code r.prefix) reaches

-- the reaches from place to end have the prefix of the one at place, and the next has another
pub record IsGroup (reaches : List Reach) (place end : ℕ) : Type 0 where
  pub more : place < end
  pub within : end ≤ length reaches
  pub same : (k : ℕ) (d : Reach) → place ≤ k → k < end
      → (slice_index_or reaches place d).prefix ≡ (slice_index_or reaches k d).prefix
  pub other : (d : Reach) → end < length reaches
      → (slice_index_or reaches place d).prefix ≡ (slice_index_or reaches end d).prefix → ⊥
