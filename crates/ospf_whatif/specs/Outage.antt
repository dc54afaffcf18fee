-- What a failure takes from the graph of an area, and what a router loses
-- by it (RFC 2328, section 16.1).
use Rattle.std.specs.Prelude.{◌≡◌, ◌<◌, ◌≤◌, ◌⊎◌, ◌++◌, ◌∷◌, ℕ, List, [], AllPairs, Contains, Option, None, Some, length, slice_index_or}
use Rattle.ospf_base.specs.declared.prefix.Prefix.{Prefix}
use Rattle.ospf_base.specs.declared.ids.RouterId.{RouterId}
use Rattle.ospf_graph.specs.Advertisements.{Advertisement}
use Rattle.ospf_graph.specs.Graph.{IsEdge}
use Rattle.ospf_graph.specs.Routes.{IsEnd, IsRoute, Way}
use Rattle.ospf_graph.specs.Search.{AreEdgesInOrder, AreFitEdges, AtIn, StartsIn}
use Rattle.ospf_graph.specs.Tree.{IsTree}
use Rattle.ospf_graph.specs.declared.graph.Edge.{Edge}
use Rattle.ospf_graph.specs.declared.graph.Vertex.{Vertex}
use Rattle.ospf_graph.specs.declared.graph.Vertex.TheVariants.{Router}
use Rattle.ospf_graph.specs.declared.route.Route.{Route}
use Rattle.ospf_graph.specs.EdgeLists.Given.{IsEdgesOf, IsEndsOf}
use Rattle.ospf_graph.specs.declared.edges.end.End.{End}
use Rattle.ospf_spf.specs.IncrementalSpf.Kept.{IsKeptTree, IsSameBut, KeptTree}
use Rattle.ospf_spf.specs.Spared.{AreEndsInOrder}
use Rattle.ospf_whatif.specs.Effect.{IsRouteChangeBefore}
use Rattle.ospf_whatif.specs.Failure.{without_all}
use Rattle.ospf_whatif.specs.Told.{IsAdvertised, IsLive}
use Rattle.ospf_whatif.specs.declared.effect.Loss.{Loss}
use Rattle.ospf_whatif.specs.declared.effect.Loss.TheVariants.{Cut, Dearer, Gone, Moved}
use Rattle.ospf_whatif.specs.declared.effect.RouteChange.{RouteChange}
use Rattle.ospf_whatif.specs.declared.outage.AreaGraph.{AreaGraph}
use Rattle.ospf_whatif.specs.declared.outage.Outage.{Outage}
use Rattle.ospf_whatif.specs.declared.root.KeptRoot.{KeptRoot}

-- ---- the area

-- the edges and the ends of the area, in order
pub record IsAreaGraph (adverts : List Advertisement) (area : AreaGraph) : Type 0 where
  pub edges_are : IsEdgesOf adverts area.edges.items
  pub fit : AreFitEdges area.edges.items
  pub in_order : AreEdgesInOrder area.edges.items
  pub ends_are : IsEndsOf adverts area.ends.items
  pub ends_in_order : AreEndsInOrder area.ends.items

-- ---- failures

-- of those before, exactly the ones that are not there after
pub record AreLost {X : Type 0} (Before After : X → Type 0) (lost : List X) : Type 0 where
  pub within : (x : X) → Contains lost x → Before x × (After x → ⊥)
  pub all : (x : X) → Before x → Contains lost x ⊎ After x

-- those of the first list that are not in the second
abbrev pub AreMissing : {X : Type 0} → List X → List X → List X → Type 0
AreMissing before after missing = AreLost (Contains before) (Contains after) missing

-- what its failures leave of the area
abbrev pub left_of_area : List Advertisement → Outage → List Advertisement
left_of_area adverts outage = without_all outage.failures.items adverts

-- the end is in the area
abbrev pub StandsIn : List Advertisement → End → Type 0
StandsIn adverts e = IsEnd adverts e.prefix e.vertex e.cost

-- its edges and its ends are those of the area that its failures do not leave, the ends in order
pub record IsOutage (adverts : List Advertisement) (outage : Outage) : Type 0 where
  pub edges : AreLost (IsEdge adverts) (IsEdge (left_of_area adverts outage)) outage.edges.items
  pub ends : AreLost (StandsIn adverts) (StandsIn (left_of_area adverts outage)) outage.ends.items
  pub ends_in_order : AreEndsInOrder outage.ends.items

-- ---- a root

-- its paths are kept over the edges of the area
pub record IsKeptRoot (adverts : List Advertisement) (kept : KeptRoot) : Type 0 where
  pub root_is : kept.paths.root ≡ Router kept.root
  pub edges_are : IsEdgesOf adverts kept.paths.edges
  pub tree : IsKeptTree kept.paths

-- ---- what the root loses

-- its paths before and after, which reach no vertex otherwise but these
pub record IsLeftOver (adverts : List Advertisement) (outage : Outage) (root : RouterId)
    (changed : List Vertex) (before after : KeptTree) : Type 0 where
  pub was : IsTree (IsEdge adverts) (Router root) (AtIn before.settled) (StartsIn before.starts)
  pub now : IsTree (IsEdge (left_of_area adverts outage)) (Router root) (AtIn after.settled)
      (StartsIn after.starts)
  pub same : IsSameBut changed before after

-- an end of the prefix goes, or one is at one of these vertices
abbrev pub MayChange : List Advertisement → List End → List Vertex → Prefix → Type 0
MayChange adverts gone changed prefix =
    ((e : End) × Contains gone e × (e.prefix ≡ prefix))
    ⊎ ((v : Vertex) × (cost : ℕ) × Contains changed v × IsEnd adverts prefix v cost)

-- what happens to a route if this is left of the area: there is no path to its prefix, which is no
-- longer advertised, or still is; or there is a route that costs more, or the same over other next
-- hops
abbrev pub IsLostAs : List Advertisement → RouterId → Route → Loss → Type 0
IsLostAs left root route Gone =
    (Way left root route.prefix → ⊥) × (IsAdvertised left route.prefix → ⊥)
IsLostAs left root route Cut = (Way left root route.prefix → ⊥) × IsAdvertised left route.prefix
IsLostAs left root route (Dearer new) =
    IsRoute left root new × (new.prefix ≡ route.prefix) × (route.cost < new.cost)
IsLostAs left root route (Moved new) =
    IsRoute left root new × (new.prefix ≡ route.prefix) × (new.cost ≡ route.cost)
    × (new.hops ≡ route.hops → ⊥)

-- the route stays, or this becomes of it
abbrev pub StaysOr : List Advertisement → RouterId → Route → Option Loss → Type 0
StaysOr left root route None = IsRoute left root route
StaysOr left root route (Some loss) = IsLostAs left root route loss

-- this becomes of a route in the place of which another one comes, unless it is the same
abbrev pub IsLossBy : Route → Route → Option Loss → Type 0
IsLossBy before after None = before ≡ after
IsLossBy before after (Some loss) =
    (before ≡ after → ⊥)
    × (((before.cost < after.cost) × (loss ≡ Dearer after))
    ⊎ ((after.cost ≤ before.cost) × (loss ≡ Moved after)))

-- one of some edges leaves the vertex, and is not among others
abbrev pub HasOtherFrom : List Edge → List Edge → Vertex → Type 0
HasOtherFrom edges less v = (e : Edge) × Contains edges e × (e.from ≡ v) × (Contains less e → ⊥)

-- one of the ends is of the prefix, at a router or at a network with a router on it
abbrev pub IsToldBy : List Advertisement → List End → Prefix → Type 0
IsToldBy left ends prefix = (e : End) × Contains ends e × (e.prefix ≡ prefix) × IsLive left e.vertex

-- the graph, what goes from it, and the root's paths over what is left
pub record AreOverLeft (adverts : List Advertisement) (root : RouterId) (area : AreaGraph)
    (outage : Outage) (paths : KeptTree) : Type 0 where
  pub graph : IsAreaGraph adverts area
  pub outage_is : IsOutage adverts outage
  pub tree : IsTree (IsEdge (left_of_area adverts outage)) (Router root) (AtIn paths.settled)
      (StartsIn paths.starts)

-- the route stays, or is added with what becomes of it
abbrev pub AddsLoss : List Advertisement → RouterId → Route → List RouteChange → List RouteChange
    → Type 0
AddsLoss left root route old new =
    (IsRoute left root route × (new ≡ old))
    ⊎ ((loss : Loss) × IsLostAs left root route loss
    × (new ≡ old ++ record { before = route; loss = loss } ∷ []))

-- of the first routes, up to this number, these are changes in order; and each at one of
-- these places stays or is among them
pub record AreChangesTo (left : List Advertisement) (root : RouterId) (routes : List Route)
    (places : List ℕ) (n : ℕ) (changes : List RouteChange) : Type 0 where
  pub in_order : AllPairs IsRouteChangeBefore changes
  pub from : (c : RouteChange) → Contains changes c
      → (k : ℕ) × (k < n) × (k < length routes) × (c.before ≡ slice_index_or routes k c.before)
      × IsLostAs left root c.before c.loss
  pub seen : (k : ℕ) (r : Route) → Contains places k → r ≡ slice_index_or routes k r
      → (k < n)
      × (IsRoute left root r
      ⊎ ((loss : Loss) × Contains changes (record { before = r; loss = loss })))
