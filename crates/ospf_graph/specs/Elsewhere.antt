-- Listings that differ in the LSAs of one vertex, and the edges that do not touch it.
use Rattle.std.specs.Prelude.{◌≡◌, ◌↔◌, ◌⊎◌, List, Contains}
use Rattle.ospf_graph.specs.declared.graph.Edge.{Edge}
use Rattle.ospf_graph.specs.declared.graph.Vertex.{Vertex}
use Rattle.ospf_graph.specs.declared.graph.Vertex.TheVariants.{Router, Network}
use Rattle.ospf_graph.specs.Advertisements.{Advertisement, router_lsa, network_lsa}
use Rattle.ospf_graph.specs.Graph.{IsEdge}

-- what an LSA describes: its router, or the network of its Link State ID
abbrev pub vertex_of : Advertisement → Vertex
vertex_of (router_lsa r _) = Router r
vertex_of (network_lsa n _ _ _) = Network n

-- two listings that differ at most in the LSAs of one vertex
abbrev pub AreSameBut : Vertex → List Advertisement → List Advertisement → Type 0
AreSameBut v A B = (a : Advertisement) → (vertex_of a ≡ v → ⊥) → Contains A a ↔ Contains B a

-- an edge that begins or ends at a vertex
abbrev pub Touches : Vertex → Edge → Type 0
Touches v e = (e.from ≡ v) ⊎ (e.to ≡ v)

-- an edge that does neither
abbrev pub IsElsewhere : Vertex → Edge → Type 0
IsElsewhere v e = (e.from ≡ v → ⊥) × (e.to ≡ v → ⊥)

-- an edge that does not touch the vertex is an edge of both listings
abbrev pub ElsewhereLaw : Type 0
ElsewhereLaw =
    (v : Vertex) (A B : List Advertisement) → AreSameBut v A B → (e : Edge) → IsElsewhere v e
    → IsEdge A e ↔ IsEdge B e

-- where the vertex keeps its edges, each edge stays
abbrev pub EdgesStay : Type 0
EdgesStay =
    (v : Vertex) (A B : List Advertisement) → AreSameBut v A B
    → ((e : Edge) → Touches v e → IsEdge A e → IsEdge B e) →
    (e : Edge) → IsEdge A e → IsEdge B e

-- an edge that comes touches the vertex
abbrev pub EdgesCome : Type 0
EdgesCome =
    (v : Vertex) (A B : List Advertisement) → AreSameBut v A B → (e : Edge) → IsEdge B e
    → IsEdge A e ⊎ Touches v e
