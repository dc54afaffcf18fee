-- Shortest paths that are stored with their edges.
use Rattle.std.specs.Prelude.{◌≡◌, ◌<◌, ◌↔◌, ◌⊎◌, ◌^◌, ℕ, List, Contains, map}
use Rattle.ospf_graph.specs.declared.graph.Edge.{Edge}
use Rattle.ospf_graph.specs.declared.graph.Vertex.{Vertex}
use Rattle.ospf_graph.specs.declared.graph.Start.{Start}
use Rattle.ospf_spf.specs.declared.incremental.grow.FoundPaths.{FoundPaths}
use Rattle.ospf_graph.specs.declared.paths.Settled.{Settled}
use Rattle.ospf_graph.specs.declared.paths.VertexStart.{VertexStart}
use Rattle.ospf_graph.specs.declared.reached.Reached.{Reached}
use Rattle.ospf_spf.specs.IncrementalSpf.Growth.{AreNear, HasPlaces, HasStart, IsAt}
use Rattle.ospf_graph.specs.Search.{AreEdgesInOrder, AtIn, AreFitEdges, StartsIn, vertex_id}
use Rattle.ospf_graph.specs.Tree.{IsTree}

-- their root, the edges, and for each vertex that is reached its distance
-- and the starts of its least paths
pub record KeptTree : Type 0 where
  pub root : Vertex
  pub edges : List Edge
  pub settled : List Settled
  pub starts : List VertexStart

-- the distances are the least over the edges, and the starts are those of all least paths
abbrev pub IsKeptTree : KeptTree → Type 0
IsKeptTree k = IsTree (Contains k.edges) k.root (AtIn k.settled) (StartsIn k.starts)

-- what is stored: edges that fit, in order, what was found over them, and the tree
pub record AreKeptPaths (root : Vertex) (edges : List Edge) (found : FoundPaths) : Type 0 where
  pub fit : AreFitEdges edges
  pub root_fits : vertex_id root < 2 ^ 32
  pub in_order : AreEdgesInOrder edges
  pub near : AreNear found.reached.items
  pub places : HasPlaces found
  pub tree : IsTree (Contains edges) root (IsAt found.reached.items) (HasStart found.reached.items)

-- the vertices that are reached
abbrev pub vertices_of : List Reached → List Vertex
vertices_of rs = map (λ r. r.vertex) rs

-- this edge and those
abbrev pub AddsEdge : Edge → List Edge → List Edge → Type 0
AddsEdge edge old new = (e : Edge) → Contains new e ↔ (Contains old e ⊎ (edge ≡ e))

-- those without the one part, and the other part
abbrev pub ChangesEdges : List Edge → List Edge → List Edge → List Edge → Type 0
ChangesEdges less more old new =
    (e : Edge) → Contains new e ↔ ((Contains old e × (Contains less e → ⊥)) ⊎ Contains more e)

-- a vertex that is not among these has its distance and its starts as before
pub record IsSameBut (changed : List Vertex) (old new : KeptTree) : Type 0 where
  pub distance : (v : Vertex) (d : ℕ) → (Contains changed v → ⊥)
      → AtIn old.settled v d ↔ AtIn new.settled v d
  pub starts : (v : Vertex) (x : Start) → (Contains changed v → ⊥)
      → StartsIn old.starts v x ↔ StartsIn new.starts v x
