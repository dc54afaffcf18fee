-- The edges of a listing's graph that touch a vertex, by the LSAs of the vertex and of its
-- neighbours (RFC 2328, section 16.1).
use Rattle.std.specs.Prelude.{◌≡◌, ◌↔◌, ◌⊎◌, ℕ, List, Contains, Vec, vec_items}
use Rattle.ospf_base.specs.declared.ids.RouterId.{RouterId}
use Rattle.ospf_lsa.specs.declared.link.Link.{Link}
use Rattle.ospf_lsa.specs.declared.link.LinkKind.{LinkKind}
use Rattle.ospf_graph.specs.declared.graph.Edge.{Edge}
use Rattle.ospf_graph.specs.declared.graph.Vertex.{Vertex}
use Rattle.ospf_graph.specs.declared.graph.Vertex.TheVariants.{Router, Network}
use Rattle.ospf_graph.specs.Advertisements.{Advertisement, router_lsa, IsAddressOn, IsAttached, IsNetwork}
use Rattle.ospf_graph.specs.Elsewhere.{Touches}
use Rattle.ospf_graph.specs.Graph.{IsEdge}
use Rattle.ospf_graph.specs.EdgeLists.Listed.{advertisements_of}
use Rattle.ospf_graph.specs.Adds.{Adds}
use Rattle.ospf_graph.specs.EdgeLists.Costs.{HasLinkTo}
use Rattle.ospf_graph.specs.EdgeLists.Given.{AttachedGives}

-- all edges of a listing that touch a vertex
abbrev pub AreEdgesAt : List Advertisement → Vertex → List Edge → Type 0
AreEdgesAt adverts v edges = (e : Edge) → Contains edges e ↔ (IsEdge adverts e × Touches v e)

-- ---- what is looked up

-- the links of the one router-LSA of a router
pub record AreLinksBy (adverts : List Advertisement) (r : RouterId) (links : List Link)
    : Type 0 where
  pub listed : Contains adverts (router_lsa r links)
  pub only : (others : List Link) → Contains adverts (router_lsa r others) → others ≡ links

-- the routers that the LSA of a transit network names
pub record AreAttachedTo (adverts : List Advertisement) (n : ℕ) (attached : List RouterId)
    : Type 0 where
  pub mask : ℕ
  pub network : IsNetwork adverts n mask attached
  pub only : (m : ℕ) (others : List RouterId) → IsNetwork adverts n m others → others ≡ attached

-- no LSA describes the transit network
abbrev pub HasNoNetwork : List Advertisement → ℕ → Type 0
HasNoNetwork adverts n =
    (mask : ℕ) (attached : List RouterId) → IsNetwork adverts n mask attached → ⊥

-- the one address of a router on a transit network
abbrev pub IsFirstAddress : List Advertisement → ℕ → RouterId → ℕ → Type 0
IsFirstAddress adverts n r address =
    IsAddressOn adverts n r address
    × ((other : ℕ) → IsAddressOn adverts n r other → other ≡ address)

-- the router has no address on the transit network
abbrev pub HasNoAddress : List Advertisement → ℕ → RouterId → Type 0
HasNoAddress adverts n r = (address : ℕ) → IsAddressOn adverts n r address → ⊥

-- ---- what is added

-- a link of type 1 or 2 leads to the vertex
abbrev pub LinkLeadsTo : Link → Vertex → Type 0
LinkLeadsTo link (Router x) = (link.kind ≡ LinkKind.PointToPoint) × (link.id ≡ x.0)
LinkLeadsTo link (Network n) = (link.kind ≡ LinkKind.Transit) × (link.id ≡ n)

-- the link leads to no vertex
abbrev pub LeadsNowhere : Link → Type 0
LeadsNowhere link = (to : Vertex) → LinkLeadsTo link to → ⊥

-- the LSA of the vertex names the router
abbrev pub NamesRouter : List Advertisement → Vertex → RouterId → Type 0
NamesRouter adverts (Router x) r = HasLinkTo adverts x LinkKind.PointToPoint r.0
NamesRouter adverts (Network n) r = IsAttached adverts n r

-- the edge of a router's link to a vertex
abbrev pub edge_to : RouterId → Vertex → Link → Edge
edge_to r to link =
    record { from = Router r; to = to; cost = link.metric; link_data = link.link_data }

-- the edge of a link that leads to the vertex
abbrev pub LinkSends : RouterId → Vertex → Link → Edge → Type 0
LinkSends r to link e = LinkLeadsTo link to × (e ≡ edge_to r to link)

-- the edges of such links
abbrev pub LinksSend : RouterId → Vertex → List Link → Edge → Type 0
LinksSend r to links e = (link : Link) × Contains links link × LinkSends r to link e

-- the edges of such links of the router's LSA
abbrev pub SendsEdge : RouterId → Vertex → List Advertisement → Edge → Type 0
SendsEdge r to adverts e =
    (links : List Link) × Contains adverts (router_lsa r links) × LinksSend r to links e

-- the edge from a transit network to a router with an address there
abbrev pub MemberGives : ℕ → RouterId → List Advertisement → Edge → Type 0
MemberGives n member adverts e = AttachedGives adverts n member e

-- the edges from a vertex that names the router to it
abbrev pub Returns : Vertex → RouterId → List Advertisement → Edge → Type 0
Returns (Router x) r adverts e = SendsEdge x (Router r) adverts e
Returns (Network n) r adverts e = MemberGives n r adverts e

-- the edges between a router and the end of a link of it
abbrev pub NearLink : RouterId → Link → List Advertisement → Edge → Type 0
NearLink r link adverts e =
    (to : Vertex) × LinkLeadsTo link to × NamesRouter adverts to r
    × ((edge_to r to link ≡ e) ⊎ Returns to r adverts e)

-- the edges between a router and the ends of links of it
abbrev pub NearLinks : RouterId → List Link → List Advertisement → Edge → Type 0
NearLinks r links adverts e = (link : Link) × Contains links link × NearLink r link adverts e

-- the edges between a transit network and a router that it names
abbrev pub NearMember : ℕ → RouterId → List Advertisement → Edge → Type 0
NearMember n member adverts e =
    MemberGives n member adverts e ⊎ SendsEdge member (Network n) adverts e

-- the edges between a transit network and routers that it names
abbrev pub NearMembers : ℕ → List RouterId → List Advertisement → Edge → Type 0
NearMembers n attached adverts e =
    (member : RouterId) × Contains attached member × NearMember n member adverts e

-- the edges that touch a vertex
abbrev pub EdgesNear : Vertex → List Advertisement → Edge → Type 0
EdgesNear v adverts e = IsEdge adverts e × Touches v e

-- exactly the edges that P says of a listing's LSAs are added
abbrev pub AddsAt : {Z : Type 0} → List (List ℕ) → (List Advertisement → Edge → Type 0) → Vec Edge Z
    → Vec Edge Z → Type 0
AddsAt lsas P old new = Adds (P (advertisements_of lsas)) (vec_items old) (vec_items new)
