-- Shortest paths from which edges are removed: what is reached over them is removed too.
use Rattle.std.specs.Prelude.{◌+◌, ◌↔◌, ◌⊎◌, ℕ, List, Contains}
use Rattle.std.specs.List.Sorted.{IsNonDecreasingBy}
use Rattle.ospf_graph.specs.declared.candidates.SpfCandidate.{SpfCandidate}
use Rattle.ospf_graph.specs.declared.graph.Edge.{Edge}
use Rattle.ospf_graph.specs.declared.graph.Vertex.{Vertex}
use Rattle.ospf_graph.specs.declared.graph.Start.{Start}
use Rattle.ospf_spf.specs.declared.incremental.grow.FoundPaths.{FoundPaths}
use Rattle.ospf_spf.specs.IncrementalSpf.Growth.{HasEdge, HasStart, IsAt}
use Rattle.ospf_graph.specs.Search.{vertex_code}
use Rattle.ospf_graph.specs.Waiting.{Waiting}

-- the edges without these
abbrev pub TakesEdges : List Edge → List Edge → List Edge → Type 0
TakesEdges less old new = (e : Edge) → Contains new e ↔ (Contains old e × (Contains less e → ⊥))

-- these vertices went, with their starts; all else is as before
pub record Leaves (Gone : Vertex → Type 0) (At At' : Vertex → ℕ → Type 0)
    (Starts Starts' : Vertex → Start → Type 0) : Type 0 where
  pub at_in : (v : Vertex) (d : ℕ) → (Gone v → ⊥) → At v d → At' v d
  pub at_out : (v : Vertex) (d : ℕ) → At' v d → (Gone v → ⊥) × At v d
  pub starts_in : (v : Vertex) (x : Start) → (Gone v → ⊥) → Starts v x → Starts' v x
  pub starts_out : (v : Vertex) (x : Start) → Starts' v x → (Gone v → ⊥) × Starts v x

-- an edge on a least path that went, or that begins at a vertex that goes, ends
-- at one that goes; the root stays
pub record IsClosed (was is_edge : Edge → Type 0) (root : Vertex) (At : Vertex → ℕ → Type 0)
    (Gone : Vertex → Type 0) : Type 0 where
  pub stays : Gone root → ⊥
  pub went : (e : Edge) (d : ℕ) → was e → At e.from d → At e.to (d + e.cost) → is_edge e ⊎ Gone e.to
  pub spreads : (e : Edge) (d : ℕ) → was e → At e.from d → At e.to (d + e.cost) → Gone e.from
      → Gone e.to

-- the edge is the last one of no least path
abbrev pub IsSlack : FoundPaths → Edge → Type 0
IsSlack f e = (d : ℕ) → IsAt f.reached.items e.from d → IsAt f.reached.items e.to (d + e.cost) → ⊥

-- vertices in the order of their numbers
abbrev pub AreVerticesInOrder : List Vertex → Type 0
AreVerticesInOrder vertices = IsNonDecreasingBy vertex_code vertices

-- where the edge is the last one of a least path, it ends at one of these vertices
abbrev pub LeadsTo : List Vertex → FoundPaths → Edge → Type 0
LeadsTo gone f e =
    (d : ℕ) → IsAt f.reached.items e.from d → IsAt f.reached.items e.to (d + e.cost)
    → Contains gone e.to

-- these vertices went from what is found
abbrev pub LeavesIn : List Vertex → FoundPaths → FoundPaths → Type 0
LeavesIn gone old new =
    Leaves (Contains gone) (IsAt old.reached.items) (IsAt new.reached.items)
    (HasStart old.reached.items) (HasStart new.reached.items)

-- each of these edges that begins where something is reached, and ends at one of these
-- vertices, which is not, waits now
pub record OpensEdges (gone : List Vertex) (some : List Edge) (At : Vertex → ℕ → Type 0)
    (old new : List SpfCandidate) : Type 0 where
  pub kept : (e : Edge) → HasEdge old e → HasEdge new e
  pub only : (e : Edge) → HasEdge new e → HasEdge old e ⊎ Contains some e
  pub waits : (e : Edge) (d : ℕ) → Contains some e → At e.from d → Contains gone e.to
      → ((k : ℕ) → At e.to k → ⊥) → HasEdge new e

-- they wait, by what is found
abbrev pub OpensIn : List Vertex → List Edge → FoundPaths → Waiting → Waiting → Type 0
OpensIn gone some f old new = OpensEdges gone some (IsAt f.reached.items) old.list new.list
