-- What a failure takes of the edges and the ends about it (RFC 2328, sections 12.4.1 and 16.1).
use Rattle.std.specs.Prelude.{◌≡◌, ◌⊎◌, ◌↔◌, ⊤, false, List, Any, Contains}
use Rattle.ospf_base.specs.declared.ids.RouterId.{RouterId}
use Rattle.ospf_base.specs.declared.prefix.Prefix.{Prefix}
use Rattle.ospf_graph.specs.declared.edges.end.End.{End as PrefixEnd}
use Rattle.ospf_lsa.specs.declared.link.Link.{Link as LsaLink}
use Rattle.ospf_graph.specs.Advertisements.{Advertisement}
use Rattle.ospf_graph.specs.Graph.{IsEdge}
use Rattle.ospf_graph.specs.declared.graph.Edge.{Edge}
use Rattle.ospf_graph.specs.declared.graph.Vertex.{Vertex}
use Rattle.ospf_graph.specs.declared.graph.Vertex.TheVariants as vertex
use Rattle.ospf_whatif.specs.Failure.{is_of_subnet, without}
use Rattle.ospf_whatif.specs.Outage.{AreLost, StandsIn}
use Rattle.ospf_whatif.specs.declared.failure.AreaFailure.{AreaFailure}
use Rattle.ospf_whatif.specs.declared.failure.AreaFailure.TheVariants.{Attachment, End, Link, Links, Network, Router, Stub}

-- ---- edges

-- the vertex that each edge touches which the failure takes: an interface to a stub network takes
-- none
abbrev pub centre_of : AreaFailure → Vertex
centre_of (Link a b subnet) = vertex.Router a
centre_of (End router other subnet) = vertex.Router router
centre_of (Links a b) = vertex.Router a
centre_of (Attachment router network) = vertex.Router router
centre_of (Network network) = vertex.Network network
centre_of (Router gone) = vertex.Router gone
centre_of (Stub router prefix) = vertex.Router router

-- it leads from one of the two vertices to the other
abbrev pub Connects : Edge → Vertex → Vertex → Type 0
Connects e v w = ((e.from ≡ v) × (e.to ≡ w)) ⊎ ((e.from ≡ w) × (e.to ≡ v))

-- its Link Data lies outside the subnet, or in a longer one
abbrev pub IsOutside : List LsaLink → Prefix → Edge → Type 0
IsOutside inner subnet e = is_of_subnet inner subnet e.link_data ≡ false

-- the second edge leads back, outside the subnet
abbrev pub IsWayBack : List LsaLink → Prefix → Edge → Edge → Type 0
IsWayBack inner subnet e back =
    (back.from ≡ e.to) × (back.to ≡ e.from) × IsOutside inner subnet back

-- it lies outside the subnet, and so does one of these edges that leads back
abbrev pub IsTwoWay : List LsaLink → List Edge → Prefix → Edge → Type 0
IsTwoWay inner near subnet e =
    IsOutside inner subnet e × Any (λ back. IsWayBack inner subnet e back) near

-- what of an edge at the centre has to hold for it to stay
abbrev pub Stays : AreaFailure → List LsaLink → List Edge → Edge → Type 0
Stays (Link a b subnet) inner near e =
    Connects e (vertex.Router a) (vertex.Router b) → IsTwoWay inner near subnet e
Stays (End router other subnet) inner near e =
    Connects e (vertex.Router router) (vertex.Router other) → IsTwoWay inner near subnet e
Stays (Links a b) inner near e = Connects e (vertex.Router a) (vertex.Router b) → ⊥
Stays (Attachment router network) inner near e =
    Connects e (vertex.Router router) (vertex.Network network) → ⊥
Stays (Network network) inner near e = ⊥
Stays (Router gone) inner near e = ⊥
Stays (Stub router prefix) inner near e = ⊤

-- exactly the edges that the failure takes
abbrev pub AreEdgesLost : List Advertisement → AreaFailure → List Edge → Type 0
AreEdgesLost adverts f lost = AreLost (IsEdge adverts) (IsEdge (without f adverts)) lost

-- ---- ends

-- the end is one of the prefix at one of the two routers
abbrev pub IsStubOf : RouterId → RouterId → Prefix → PrefixEnd → Type 0
IsStubOf a b prefix e =
    (e.prefix ≡ prefix) × ((e.vertex ≡ vertex.Router a) ⊎ (e.vertex ≡ vertex.Router b))

-- the end is that of the prefix at the router
abbrev pub IsStubAt : RouterId → Prefix → PrefixEnd → Type 0
IsStubAt router prefix e = (e.prefix ≡ prefix) × (e.vertex ≡ vertex.Router router)

-- exactly these
abbrev pub AreStubsAt : List Advertisement → RouterId → Prefix → List PrefixEnd → Type 0
AreStubsAt adverts router prefix ends =
    (e : PrefixEnd) → Contains ends e ↔ (StandsIn adverts e × IsStubAt router prefix e)

-- exactly these
abbrev pub AreStubsOf : List Advertisement → RouterId → RouterId → Prefix → List PrefixEnd → Type 0
AreStubsOf adverts a b prefix ends =
    (e : PrefixEnd) → Contains ends e ↔ (StandsIn adverts e × IsStubOf a b prefix e)

-- exactly the ends that the failure takes
abbrev pub AreEndsLost : List Advertisement → AreaFailure → List PrefixEnd → Type 0
AreEndsLost adverts f lost = AreLost (StandsIn adverts) (StandsIn (without f adverts)) lost
