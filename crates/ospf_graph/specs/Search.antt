-- The state of the search by candidates.
use Rattle.std.specs.Prelude.{◌≡◌, ◌+◌, ◌*◌, ◌<◌, ◌≤◌, ◌==◌, ◌⊎◌, ◌++◌, ◌≢◌, ◌^◌, ℕ, Bool, false, List, [], ◌∷◌, Contains, Option, Some, cond, length}
use Rattle.std.specs.List.Sorted.{IsNonDecreasingBy}
use Rattle.ospf_graph.specs.declared.graph.Edge.{Edge}
use Rattle.ospf_graph.specs.declared.graph.Vertex.{Vertex}
use Rattle.ospf_graph.specs.declared.graph.Vertex.TheVariants.{Router, Network}
use Rattle.ospf_graph.specs.declared.graph.Start.{Start}
use Rattle.ospf_graph.specs.declared.paths.VertexStart.{VertexStart}
use Rattle.ospf_graph.specs.declared.paths.Settled.{Settled}
use Rattle.ospf_graph.specs.declared.candidates.SpfCandidate.{SpfCandidate}
use Rattle.ospf_graph.specs.Tree.{rank, extend, RaisesRank}

-- the rank by which a candidate waits
abbrev pub candidate_rank : SpfCandidate → ℕ
candidate_rank c = rank c.edge.to c.distance

-- the two are the same vertex
abbrev pub vertex_eq : Vertex → Vertex → Bool
vertex_eq (Router a) (Router b) = a.0 == b.0
vertex_eq (Network a) (Network b) = a == b
vertex_eq (Router _) (Network _) = false
vertex_eq (Network _) (Router _) = false

-- the candidates that a vertex at this distance brings
abbrev pub candidates_from : Vertex → ℕ → List Edge → List SpfCandidate
candidates_from v d [] = []
candidates_from v d (e ∷ rest) =
    cond (vertex_eq e.from v)
    (record { edge = e; distance = d + e.cost } ∷ candidates_from v d rest)
    (candidates_from v d rest)

-- the same edges leave the vertex, in order
abbrev pub HaveSameFrom : Vertex → List Edge → List Edge → Type 0
HaveSameFrom v edges some = (d : ℕ) → candidates_from v d edges ≡ candidates_from v d some

-- the vertex is reached at this distance
abbrev pub AtIn : List Settled → Vertex → ℕ → Type 0
AtIn settled v d = Contains settled (record { vertex = v; distance = d })

-- of the vertex this start is among them
abbrev pub StartsIn : List VertexStart → Vertex → Start → Type 0
StartsIn starts v x = Contains starts (record { vertex = v; start = x })

-- the edge's end waits among the candidates, at this distance
abbrev pub WaitsAmong : List SpfCandidate → Edge → ℕ → Type 0
WaitsAmong candidates e k = Contains candidates (record { edge = e; distance = k })

-- the number that names a vertex among those of its kind
abbrev pub vertex_id : Vertex → ℕ
vertex_id (Router r) = r.0
vertex_id (Network n) = n

-- the place of a vertex in the order of vertices
abbrev pub vertex_code : Vertex → ℕ
vertex_code (Router r) = 2 * r.0
vertex_code (Network n) = 2 * n + 1

-- a nearer way to its end is noted
abbrev pub IsUndercut : (ℕ → Option ℕ) → SpfCandidate → Type 0
IsUndercut nearest c =
    (near : ℕ) × (nearest (vertex_code c.edge.to) ≡ Some near) × (near < c.distance)

-- where a distance is noted for a vertex, it is reached as near, or a
-- candidate leads there at that distance
abbrev pub AreNoted : (ℕ → Option ℕ) → List Settled → List SpfCandidate → Type 0
AreNoted nearest settled candidates =
    (v : Vertex) (near : ℕ) → nearest (vertex_code v) ≡ Some near →
    ((d : ℕ) × (d ≤ near) × AtIn settled v d)
    ⊎ ((e : Edge) × (e.to ≡ v) × WaitsAmong candidates e near)

-- these candidates wait too, but for those that a nearer one undercuts
-- (RFC 2328, section 16.1, step 2d)
pub record Joins (more : List SpfCandidate) (nearest nearest' : ℕ → Option ℕ)
    (old new : List SpfCandidate) : Type 0 where
  pub kept : (c : SpfCandidate) → Contains old c → Contains new c
  pub only : (c : SpfCandidate) → Contains new c → Contains old c ⊎ Contains more c
  pub joined : (c : SpfCandidate) → Contains more c → Contains new c ⊎ IsUndercut nearest' c
  pub falls : (q near : ℕ) → nearest q ≡ Some near → (d : ℕ) × (d ≤ near) × (nearest' q ≡ Some d)
  pub noted : (settled : List Settled) → AreNoted nearest settled old
      → AreNoted nearest' settled new
  pub few : length new ≤ length old + length more

-- the starts at the edge's beginning, one edge further, are now at its end, and nothing else is new
pub record BringsStarts (edge : Edge) (old new : List VertexStart) : Type 0 where
  pub kept : (b : VertexStart) → Contains old b → Contains new b
  pub brought : (x : Start) → Contains old (record { vertex = edge.from; start = x }) →
      Contains new (record { vertex = edge.to; start = extend x edge.to edge.link_data })
  pub only : (b : VertexStart) → Contains new b → Contains old b ⊎
      ((b.vertex ≡ edge.to) × (y : Start) × Contains old (record { vertex = edge.from; start = y })
      × (b.start ≡ extend y edge.to edge.link_data))

-- the candidate's vertex is new: it is reached, its edges become candidates where they are not
-- undercut, and the edge brings its starts
pub record ReachesVertex (c : SpfCandidate) (edges : List Edge) (settled settled' : List Settled)
    (starts starts' : List VertexStart)
    (nearest nearest' : ℕ → Option ℕ) (candidates candidates' : List SpfCandidate) : Type 0 where
  pub fresh : (d : ℕ) → Contains settled (record { vertex = c.edge.to; distance = d }) → ⊥
  pub settled_is : settled' ≡ settled ++ record { vertex = c.edge.to; distance = c.distance } ∷ []
  pub candidates_are :
      Joins (candidates_from c.edge.to c.distance edges) nearest nearest' candidates candidates'
  pub brings : BringsStarts c.edge starts starts'

-- it was reached before: the edge brings its starts if it leads there as near
pub record SeesAgain (c : SpfCandidate) (settled settled' : List Settled)
    (starts starts' : List VertexStart)
    (nearest nearest' : ℕ → Option ℕ) (candidates candidates' : List SpfCandidate) : Type 0 where
  pub near : ℕ
  pub at : Contains settled (record { vertex = c.edge.to; distance = near })
  pub settled_is : settled' ≡ settled
  pub candidates_is : candidates' ≡ candidates
  pub nearest_is : nearest' ≡ nearest
  pub brings : ((near ≡ c.distance) × BringsStarts c.edge starts starts')
      ⊎ ((near ≢ c.distance) × (starts' ≡ starts))

-- a candidate is taken: its vertex is new, or was reached before (16.1, steps 2 and 3)
abbrev pub TakesCandidate : SpfCandidate → List Edge
    → (settled settled' : List Settled) (starts starts' : List VertexStart)
    (nearest nearest' : ℕ → Option ℕ)
    (candidates candidates' : List SpfCandidate) → Type 0
TakesCandidate c edges settled settled' starts starts' nearest nearest' candidates candidates' =
    ReachesVertex c edges settled settled' starts starts' nearest nearest' candidates candidates'
    ⊎ SeesAgain c settled settled' starts starts' nearest nearest' candidates candidates'

-- in the order of the vertices that they leave
abbrev pub AreEdgesInOrder : List Edge → Type 0
AreEdgesInOrder edges = IsNonDecreasingBy (λ e. vertex_code e.from) edges

-- edges that raise the rank, with costs and names of their types' sizes
pub record AreFitEdges (edges : List Edge) : Type 0 where
  pub rising : RaisesRank (Contains edges)
  pub cost_fits : (e : Edge) → Contains edges e → e.cost < 2 ^ 16
  pub id_fits : (e : Edge) → Contains edges e → vertex_id e.to < 2 ^ 32
