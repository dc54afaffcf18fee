-- Shortest paths as lists (RFC 2328, section 16.1).
use Rattle.std.specs.Prelude.{List, Contains}
use Rattle.std.specs.List.Sorted.{IsNonDecreasingBy}
use Rattle.ospf_graph.specs.declared.graph.Edge.{Edge}
use Rattle.ospf_graph.specs.declared.graph.Vertex.{Vertex}
use Rattle.ospf_graph.specs.declared.paths.Settled.{Settled}
use Rattle.ospf_graph.specs.declared.paths.VertexStart.{VertexStart}
use Rattle.ospf_graph.specs.declared.paths.ShortestPaths.{ShortestPaths}
use Rattle.ospf_graph.specs.Search.{AtIn, StartsIn, vertex_code}
use Rattle.ospf_graph.specs.Tree.{AreLeast, IsTree}

-- the paths, as lists, are a tree over the edges
abbrev pub IsTreeOver : List Edge → Vertex → ShortestPaths → Type 0
IsTreeOver edges root t =
    IsTree (Contains edges) root (AtIn t.settled.items) (StartsIn t.starts.items)

-- they are the least over the edges
abbrev pub AreLeastOver : List Edge → Vertex → ShortestPaths → Type 0
AreLeastOver edges root t =
    AreLeast (Contains edges) root (AtIn t.settled.items) (StartsIn t.starts.items)

-- distances in the order of their vertices
abbrev pub AreSettledInOrder : List Settled → Type 0
AreSettledInOrder settled = IsNonDecreasingBy (λ s. vertex_code s.vertex) settled

-- starts in the order of their vertices
abbrev pub AreStartsInOrder : List VertexStart → Type 0
AreStartsInOrder starts = IsNonDecreasingBy (λ b. vertex_code b.vertex) starts
