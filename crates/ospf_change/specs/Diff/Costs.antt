-- The interfaces whose costs differ between two areas (RFC 2328, section 12.4.1).
use Rattle.std.specs.Prelude.{◌≡◌, ◌≢◌, ◌<◌, ◌≤◌, ◌==◌, ◌⊎◌, ◌↔◌, ⊤, ℕ, List, ◌++◌, AllPairs, Contains, MatchOption, None, Option, Some, codes, decimal, if◌then◌else◌}
use Rattle.std.specs.declared.cmp.Ordering.{Ordering}
use Rattle.ospf_base.specs.Text.{number_text}
use Rattle.ospf_base.specs.declared.ids.RouterId.{RouterId}
use Rattle.ospf_graph.specs.Advertisements.{Advertisement}
use Rattle.ospf_graph.specs.EdgeLists.Costs.{lesser_of}
use Rattle.ospf_graph.specs.Graph.{IsEdgeBetween}
use Rattle.ospf_graph.specs.declared.graph.Edge.{Edge}
use Rattle.ospf_graph.specs.declared.graph.Vertex.{Vertex}
use Rattle.ospf_graph.specs.declared.graph.Vertex.TheVariants.{Network, Router}
use Rattle.ospf_change.specs.contracts.diff.costs.InterfaceOrd.TheImpl as interface_ord
use Rattle.ospf_change.specs.declared.diff.costs.CostChange.{CostChange}
use Rattle.ospf_change.specs.declared.diff.costs.Interface.{Interface}

-- what an interface costs: the least of the edges from its router that have its Link Data and lead
-- where it leads
pub record IsInterfaceCost (adverts : List Advertisement) (i : Interface) (cost : ℕ)
    : Type 0 where
  pub edge : IsEdgeBetween adverts (Router i.router) i.to cost i.link_data
  pub least : (other : ℕ) → IsEdgeBetween adverts (Router i.router) i.to other i.link_data
      → cost ≤ other

-- an interface of both areas, at different costs
pub record IsCostChange (before after : List Advertisement) (c : CostChange) : Type 0 where
  pub was : IsInterfaceCost before c.interface c.before
  pub is : IsInterfaceCost after c.interface c.after
  pub other : c.before ≢ c.after

-- the order of vertices: networks by Link State ID, then routers by Router ID
abbrev pub IsVertexBefore : Vertex → Vertex → Type 0
IsVertexBefore (Network n) (Network m) = n < m
IsVertexBefore (Network n) (Router r) = ⊤
IsVertexBefore (Router r) (Network n) = ⊥
IsVertexBefore (Router r) (Router s) = r.0 < s.0

-- the order of interfaces: by router, then by where they lead, then by Link Data
abbrev pub IsInterfaceBefore : Interface → Interface → Type 0
IsInterfaceBefore i j =
    (i.router.0 < j.router.0)
    ⊎ ((i.router.0 ≡ j.router.0)
    × (IsVertexBefore i.to j.to ⊎ ((i.to ≡ j.to) × (i.link_data < j.link_data))))

-- all of them, in the order of interfaces and so each once
pub record AreCostChanges (before after : List Advertisement) (found : List CostChange)
    : Type 0 where
  pub in_order : AllPairs (λ c d. IsInterfaceBefore c.interface d.interface) found
  pub whole : (c : CostChange) → Contains found c ↔ IsCostChange before after c

-- that order, as a map has it
abbrev pub interface_cmp : Interface → Interface → Ordering
interface_cmp = (interface_ord.ghosts).cmp

-- a router, or a network's Link State ID behind its sign
abbrev pub vertex_text : Vertex → List ℕ
vertex_text (Network n) = codes "@" ++ number_text n
vertex_text (Router r) = number_text r.0

-- what it says of one
abbrev pub cost_change_text : CostChange → List ℕ
cost_change_text c =
    codes "cost " ++ number_text c.interface.router.0 ++ codes " "
    ++ number_text c.interface.link_data ++ codes " to " ++ vertex_text c.interface.to
    ++ codes ": " ++ decimal c.before ++ codes " -> " ++ decimal c.after

-- the line of it
abbrev pub cost_line : CostChange → List ℕ
cost_line c = cost_change_text c ++ codes "\n"

-- ---- on the way

-- the edge of an interface at a cost
abbrev pub edge_of : Interface → ℕ → Edge
edge_of i cost =
    record { from = Router i.router; to = i.to; cost = cost; link_data = i.link_data }

-- the least number of some, where there is one
abbrev pub IsLeastCostOf : (ℕ → Type 0) → Option ℕ → Type 0
IsLeastCostOf P least =
    MatchOption least ((n : ℕ) → P n → ⊥) (λ n. P n × ((m : ℕ) → P m → n ≤ m))

-- what each interface of an area costs
abbrev pub AreInterfaceCosts : List Advertisement → (Interface → Option ℕ) → Type 0
AreInterfaceCosts adverts cost_at =
    (i : Interface)
    → IsLeastCostOf (λ cost. IsEdgeBetween adverts (Router i.router) i.to cost i.link_data)
    (cost_at i)

-- a cost is noted for an interface, unless a lesser one is
abbrev pub PutsLeast
    : Interface → ℕ → (Interface → Option ℕ) → (Interface → Option ℕ) → Type 0
PutsLeast i cost old new =
    (j : Interface)
    → ((j ≡ i) × (new j ≡ Some (lesser_of (old j) cost))) ⊎ ((j ≡ i → ⊥) × (new j ≡ old j))

-- the cost of an edge is noted for its interface, unless a lesser one is
abbrev pub AddsCost : Edge → (Interface → Option ℕ) → (Interface → Option ℕ) → Type 0
AddsCost edge old new =
    (j : Interface)
    → ((edge ≡ edge_of j edge.cost) × (new j ≡ Some (lesser_of (old j) edge.cost)))
    ⊎ ((edge ≡ edge_of j edge.cost → ⊥) × (new j ≡ old j))

-- the change from a cost to that of the other area, where that is another
abbrev pub change_to : Interface → ℕ → Option ℕ → Option CostChange
change_to i before None = None
change_to i before (Some after) =
    if before == after then None
    else Some (record { interface = i; before = before; after = after })

-- the change of an interface that costs this much, by what interfaces cost in the other area
abbrev pub change_in : (Interface → Option ℕ) → Interface × ℕ → Option CostChange
change_in cost_at entry = change_to entry.0 entry.1 (cost_at entry.0)
