-- Prefixes that are advertised, reached or not.
use Rattle.std.specs.Prelude.{◌≡◌, ⊤, ℕ, List}
use Rattle.ospf_base.specs.declared.prefix.Prefix.{Prefix}
use Rattle.ospf_graph.specs.declared.graph.Edge.{Edge}
use Rattle.ospf_graph.specs.declared.graph.Vertex.{Vertex}
use Rattle.ospf_graph.specs.declared.graph.Vertex.TheVariants.{Network, Router}
use Rattle.ospf_graph.specs.Advertisements.{Advertisement}
use Rattle.ospf_graph.specs.Graph.{IsEdge}
use Rattle.ospf_graph.specs.Routes.{IsEnd}

-- a router, or a network with a router on it
abbrev pub IsLive : List Advertisement → Vertex → Type 0
IsLive adverts (Router r) = ⊤
IsLive adverts (Network n) = (e : Edge) × IsEdge adverts e × (e.from ≡ Network n)

-- the prefix is advertised at one of those
abbrev pub IsAdvertised : List Advertisement → Prefix → Type 0
IsAdvertised adverts prefix =
    (v : Vertex) × (cost : ℕ) × IsEnd adverts prefix v cost × IsLive adverts v
