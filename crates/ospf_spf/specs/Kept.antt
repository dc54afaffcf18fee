-- Trees that are stored with the graph that they were computed from.
use Rattle.std.specs.Prelude.{◌≡◌, ◌<◌, ◌^◌, ℕ, List, All}
use Rattle.std.specs.List.Sorted.{IsNonDecreasingBy}
use Rattle.ospf_base.specs.declared.ids.RouterId.{RouterId}
use Rattle.ospf_graph.specs.Advertisements.{Advertisement}
use Rattle.ospf_graph.specs.Graph.{IsEdge}
use Rattle.ospf_graph.specs.Search.{AtIn, StartsIn, vertex_code}
use Rattle.ospf_graph.specs.Tree.{IsTree}
use Rattle.ospf_graph.specs.declared.graph.Vertex.{Vertex}
use Rattle.ospf_graph.specs.declared.graph.Vertex.TheVariants.{Router}
use Rattle.ospf_graph.specs.declared.paths.ShortestPaths.{ShortestPaths}
use Rattle.ospf_graph.specs.EdgeLists.Items.{graph_in, items_of_all}
use Rattle.ospf_graph.specs.Paths.{AreStartsInOrder}
use Rattle.ospf_graph.specs.declared.edges.items.GraphItem.{GraphItem}

-- what is known of a stored tree: the LSAs that it was computed from, without their links of types
-- 3 and 4, its root, and how often its search looked at a candidate
pub record KeptSearch : Type 0 where
  pub graph : List Advertisement
  pub root : RouterId
  pub looks : ℕ

-- small distances, one for each vertex, and both lists in the order of their vertices
pub record AreWellFormed (paths : ShortestPaths) : Type 0 where
  pub near : All (λ s. s.distance < 2 ^ 63) paths.settled.items
  pub one : (v : Vertex) (d k : ℕ) → AtIn paths.settled.items v d → AtIn paths.settled.items v k
      → d ≡ k
  pub settled_in_order : IsNonDecreasingBy (λ s. vertex_code s.vertex) paths.settled.items
  pub starts_in_order : AreStartsInOrder paths.starts.items

-- the shortest paths are those of the edges
abbrev pub IsTreeOf : List Advertisement → RouterId → ShortestPaths → Type 0
IsTreeOf adverts root paths =
    IsTree (IsEdge adverts) (Router root) (AtIn paths.settled.items) (StartsIn paths.starts.items)

-- the shortest paths of the graph that the items describe
pub record IsKeptFor (items : List GraphItem) (root : RouterId) (paths : ShortestPaths)
    : Type 0 where
  pub told : AreWellFormed paths
  pub whole : items ≡ items_of_all (graph_in items)
  pub tree : IsTreeOf (graph_in items) root paths
