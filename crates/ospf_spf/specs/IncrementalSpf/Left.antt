-- What is left of stored paths when edges are removed, without changing these paths: what a least
-- path reached over one of the edges is searched for again (RFC 2328, section 16.1).
use Rattle.std.specs.Prelude.{◌≡◌, ◌==◌, ◌⊎◌, ◌↔◌, ◌&&◌, ◌||◌, ◌++◌, ℕ, Bool, not, List, Contains, filter}
use Rattle.std.specs.List.{list_any}
use Rattle.ospf_graph.specs.declared.graph.Edge.{Edge}
use Rattle.ospf_graph.specs.declared.graph.Start.{Start}
use Rattle.ospf_graph.specs.declared.graph.Vertex.{Vertex}
use Rattle.ospf_graph.specs.declared.reached.Reached.{Reached}
use Rattle.ospf_graph.specs.Reached.{settled_of, starts_of}
use Rattle.ospf_graph.specs.Search.{vertex_code}
use Rattle.ospf_graph.specs.Tree.{IsTree}
use Rattle.ospf_spf.specs.declared.incremental.grow.FoundPaths.{FoundPaths}
use Rattle.ospf_spf.specs.IncrementalSpf.Growth.{AreNear, HasPlaces, HasStart, IsAt}
use Rattle.ospf_spf.specs.IncrementalSpf.Kept.{KeptTree}
use Rattle.ospf_spf.specs.IncrementalSpf.Shrinking.{AreVerticesInOrder, IsClosed, TakesEdges}

-- ---- what is left

-- for each edge another one leads back
abbrev pub LeadBack : List Edge → Type 0
LeadBack edges =
    (e : Edge) → Contains edges e
    → (back : Edge) × Contains edges back × (back.from ≡ e.to) × (back.to ≡ e.from)

-- two edges are the same
abbrev pub same_edge : Edge → Edge → Bool
same_edge a b =
    (vertex_code a.from == vertex_code b.from) && ((vertex_code a.to == vertex_code b.to)
    && ((a.cost == b.cost) && (a.link_data == b.link_data)))

-- the edges without these
abbrev pub edges_without : List Edge → List Edge → List Edge
edges_without less edges = filter (λ e. not (list_any (same_edge e) less)) edges

-- the vertex was searched for again: because all were, or as one of these
abbrev pub is_anew : Bool → List Vertex → Vertex → Bool
is_anew is_all gone v = is_all || list_any (λ w. vertex_code w == vertex_code v) gone

-- the paths without these edges: what was found again, and all else from the stored paths
abbrev pub left_kept : KeptTree → List Edge → Bool → List Vertex → List Reached → KeptTree
left_kept whole less is_all gone own = record {
  root = whole.root;
  edges = edges_without less whole.edges;
  settled = filter (λ s. not (is_anew is_all gone s.vertex)) whole.settled
      ++ filter (λ s. is_anew is_all gone s.vertex) (settled_of own);
  starts = filter (λ b. not (is_anew is_all gone b.vertex)) whole.starts
      ++ filter (λ b. is_anew is_all gone b.vertex) (starts_of own);
}

-- what was found again has its places, and the vertices are in order
pub record IsLeftKept (gone : List Vertex) (own : FoundPaths) : Type 0 where
  pub in_order : AreVerticesInOrder gone
  pub places : HasPlaces own
  pub near : AreNear own.reached.items

-- ---- on the way

-- at each edge that leaves one of the vertices its other end
abbrev pub AreFarEnds : List Edge → List Vertex → List Vertex → Type 0
AreFarEnds edges gone far =
    (e : Edge) → Contains edges e → Contains gone e.from → Contains far e.to

-- the edges, and those of others that are left and end at one of these vertices
abbrev pub AddsEdgesTo : List Edge → List Edge → List Vertex → List Edge → List Edge → Type 0
AddsEdgesTo some less gone old new =
    (e : Edge) → Contains new e
    ↔ (Contains old e ⊎ (Contains some e × (Contains less e → ⊥) × Contains gone e.to))

-- the edges that are left and end at one of these vertices
abbrev pub AreEdgesTo : List Edge → List Edge → List Vertex → List Edge → Type 0
AreEdgesTo edges less gone ends =
    (e : Edge) → Contains ends e ↔ (Contains edges e × (Contains less e → ⊥) × Contains gone e.to)

-- a vertex found here is found there at the same distance, with the same starts
pub record AreCopies (there here : List Reached) : Type 0 where
  pub at : (v : Vertex) (d : ℕ) → IsAt here v d → IsAt there v d
  pub starts : (v : Vertex) (x : Start) → HasStart here v x → HasStart there v x
  pub whole : (v : Vertex) (d : ℕ) (x : Start) → IsAt here v d → HasStart there v x
      → HasStart here v x

-- the copies, and one of the vertex, where it is found
pub record Copies (v : Vertex) (there old new : List Reached) : Type 0 where
  pub copies : AreCopies there new
  pub kept : (w : Vertex) (d : ℕ) → IsAt old w d → IsAt new w d
  pub only : (w : Vertex) (d : ℕ) → IsAt new w d → IsAt old w d ⊎ (w ≡ v)
  pub copied : (d : ℕ) → IsAt there v d → IsAt new v d

-- copies of the root and of where these edges begin, but for vertices that are gone
pub record AreBeside (there : List Reached) (root : Vertex) (some : List Edge) (gone : List Vertex)
    (here : List Reached) : Type 0 where
  pub copies : AreCopies there here
  pub root_in : (d : ℕ) → IsAt there root d → IsAt here root d
  pub begins : (e : Edge) (d : ℕ) → Contains some e → (Contains gone e.from → ⊥)
      → IsAt there e.from d → IsAt here e.from d
  pub free : (Contains gone root → ⊥) → (v : Vertex) (d : ℕ) → IsAt here v d → Contains gone v → ⊥

-- the vertex is at this distance: as before, or if it is gone, as it was found again
abbrev pub IsAtLeft : List Vertex → List Reached → List Reached → Vertex → ℕ → Type 0
IsAtLeft gone whole own v d =
    ((Contains gone v → ⊥) × IsAt whole v d) ⊎ (Contains gone v × IsAt own v d)

-- and with this start
abbrev pub HasStartLeft : List Vertex → List Reached → List Reached → Vertex → Start → Type 0
HasStartLeft gone whole own v x =
    ((Contains gone v → ⊥) × HasStart whole v x) ⊎ (Contains gone v × HasStart own v x)

-- of a tree that is closed at these vertices a tree of the edges that are left was made
abbrev pub IsRegrown : List Edge → List Edge → Vertex → List Vertex → FoundPaths → FoundPaths
    → Type 0
IsRegrown edges less root gone found own =
    (left : List Edge) → TakesEdges less edges left
    → IsTree (Contains edges) root (IsAt found.reached.items) (HasStart found.reached.items)
    → IsClosed (Contains edges) (Contains left) root (IsAt found.reached.items) (Contains gone)
    → IsTree (Contains left) root (IsAtLeft gone found.reached.items own.reached.items)
    (HasStartLeft gone found.reached.items own.reached.items)
