-- The edges and the ends that each LSA of a listing gives (RFC 2328, section 16.1).
use Rattle.std.specs.Prelude.{◌≡◌, ◌+◌, ◌≤◌, ◌↔◌, ◌⊎◌, ℕ, List, [], ◌∷◌, Contains, length}
use Rattle.ospf_base.specs.Prefixes.{IsPrefixOf}
use Rattle.ospf_base.specs.declared.ids.RouterId.{RouterId}
use Rattle.ospf_base.specs.declared.prefix.Prefix.{Prefix}
use Rattle.ospf_lsa.specs.declared.link.Link.{Link}
use Rattle.ospf_lsa.specs.declared.link.LinkKind.{LinkKind}
use Rattle.ospf_graph.specs.declared.graph.Edge.{Edge}
use Rattle.ospf_graph.specs.declared.graph.Vertex.{Vertex}
use Rattle.ospf_graph.specs.declared.graph.Vertex.TheVariants.{Router, Network}
use Rattle.ospf_graph.specs.Advertisements.{Advertisement, router_lsa, network_lsa, IsAttached, IsAddressOn}
use Rattle.ospf_graph.specs.Graph.{IsEdge}
use Rattle.ospf_graph.specs.Routes.{IsEnd}
use Rattle.ospf_graph.specs.EdgeLists.Costs.{HasLinkTo}
use Rattle.ospf_graph.specs.declared.edges.end.End.{End}

-- the edge of a link: to a router that links back, or to a network that names the router
abbrev pub LinkGives : List Advertisement → RouterId → Link → Edge → Type 0
LinkGives adverts a link e =
    ((link.kind ≡ LinkKind.PointToPoint)
    × HasLinkTo adverts (record { 0 = link.id }) LinkKind.PointToPoint a.0
    × (e ≡ record {
      from = Router a;
      to = Router (record { 0 = link.id });
      cost = link.metric;
      link_data = link.link_data;
    }))
    ⊎ ((link.kind ≡ LinkKind.Transit) × IsAttached adverts link.id a
    × (e ≡ record {
      from = Router a;
      to = Network link.id;
      cost = link.metric;
      link_data = link.link_data;
    }))

-- the network-LSA is the one used for its Link State ID
abbrev pub StandsFor : List Advertisement → ℕ → RouterId → Type 0
StandsFor adverts n router =
    (r : RouterId) (m : ℕ) (others : List RouterId) → Contains adverts (network_lsa n r m others)
    → r.0 ≤ router.0

-- the edge to an attached router that names the network
abbrev pub AttachedGives : List Advertisement → ℕ → RouterId → Edge → Type 0
AttachedGives adverts n member e =
    (address : ℕ) × IsAddressOn adverts n member address
    × (e ≡ record { from = Network n; to = Router member; cost = 0; link_data = address })

-- the LSA gives this edge (16.1, step 2)
abbrev pub EdgesOf : List Advertisement → Advertisement → Edge → Type 0
EdgesOf adverts (router_lsa a links) e =
    (link : Link) × Contains links link × LinkGives adverts a link e
EdgesOf adverts (network_lsa n router mask attached) e =
    StandsFor adverts n router × (member : RouterId) × Contains attached member
    × AttachedGives adverts n member e

-- all links of router-LSAs and attached routers of network-LSAs
abbrev pub link_count : List Advertisement → ℕ
link_count [] = 0
link_count (router_lsa _ links ∷ rest) = length links + link_count rest
link_count (network_lsa _ _ _ attached ∷ rest) = length attached + link_count rest

-- the end of a stub link
abbrev pub StubGives : RouterId → Link → End → Type 0
StubGives router link e =
    (link.kind ≡ LinkKind.Stub) × (prefix : Prefix) × IsPrefixOf link.id link.link_data prefix
    × (e ≡ record { prefix = prefix; vertex = Router router; cost = link.metric })

-- a network is an end itself: its prefix, at no further cost (16.1, step 4)
abbrev pub NetworkGives : ℕ → ℕ → End → Type 0
NetworkGives n mask e =
    (prefix : Prefix) × IsPrefixOf n mask prefix
    × (e ≡ record { prefix = prefix; vertex = Network n; cost = 0 })

-- the LSA gives this end: of a transit network in step 4 of 16.1, of a stub link in its second
-- stage
abbrev pub EndsOf : List Advertisement → Advertisement → End → Type 0
EndsOf adverts (router_lsa r links) e = (link : Link) × Contains links link × StubGives r link e
EndsOf adverts (network_lsa n r mask attached) e = StandsFor adverts n r × NetworkGives n mask e

-- all ends of a listing at a vertex
abbrev pub AreEndsAt : List Advertisement → Vertex → List End → Type 0
AreEndsAt adverts v ends =
    (e : End) → Contains ends e ↔ (IsEnd adverts e.prefix e.vertex e.cost × (e.vertex ≡ v))

-- all edges of a listing
abbrev pub IsEdgesOf : List Advertisement → List Edge → Type 0
IsEdgesOf adverts edges = (e : Edge) → Contains edges e ↔ IsEdge adverts e

-- all ends of a listing
abbrev pub IsEndsOf : List Advertisement → List End → Type 0
IsEndsOf adverts ends = (e : End) → Contains ends e ↔ IsEnd adverts e.prefix e.vertex e.cost
