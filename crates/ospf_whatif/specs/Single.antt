-- The single failures of an area: what may fail in it, one at a time.
use Rattle.std.specs.Prelude.{◌≡◌, ◌<◌, ◌≤◌, ◌↔◌, ◌⊎◌, ℕ, List, Contains, MatchOption, Option}
use Rattle.ospf_base.specs.declared.ids.RouterId.{RouterId}
use Rattle.ospf_base.specs.declared.prefix.Prefix.{Prefix}
use Rattle.ospf_base.specs.Prefixes.{Holds, IsPrefixBefore}
use Rattle.ospf_graph.specs.declared.graph.Edge.{Edge}
use Rattle.ospf_graph.specs.declared.graph.Vertex.{Vertex}
use Rattle.ospf_graph.specs.declared.graph.Vertex.TheVariants as vertex
use Rattle.ospf_graph.specs.Advertisements.{Advertisement, IsListed, router_lsa, network_lsa}
use Rattle.ospf_graph.specs.Graph.{IsEdgeBetween}
use Rattle.ospf_graph.specs.Pairs.{pair_code}
use Rattle.ospf_graph.specs.Routes.{IsEnd}
use Rattle.ospf_graph.specs.declared.edges.end.End.{End}
use Rattle.ospf_whatif.specs.declared.failure.AreaFailure as failure
use Rattle.ospf_whatif.specs.declared.failure.AreaFailure.TheVariants.{Attachment, Links, Network, Router, Stub}
use Rattle.ospf_whatif.specs.declared.failure.AreaFailure.TheVariants as fails

-- the Link Data of a link without an address: the index of its interface, which lies in 0.0.0.0/8,
-- as no address of an interface does (section 12.4.1.1)
abbrev pub IsInterfaceIndex : ℕ → Type 0
IsInterfaceIndex link_data = link_data < 0x1000000

-- a prefix that both routers advertise by a type 3 link, and that holds this address of the first
-- router and the address of an edge back from the other
pub record IsShared (adverts : List Advertisement) (a b : RouterId) (address : ℕ) (prefix : Prefix)
    : Type 0 where
  pub numbered : IsInterfaceIndex address → ⊥
  pub here : Holds prefix address
  pub metric : ℕ
  pub told_here : IsEnd adverts prefix (vertex.Router a) metric
  pub other_metric : ℕ
  pub told_there : IsEnd adverts prefix (vertex.Router b) other_metric
  pub cost : ℕ
  pub other_address : ℕ
  pub back : IsEdgeBetween adverts (vertex.Router b) (vertex.Router a) cost other_address
  pub numbered_back : IsInterfaceIndex other_address → ⊥
  pub there : Holds prefix other_address

-- a link of two routers in a subnet, seen from the one of the smaller Router ID: the subnet is the
-- longest prefix that the two share at an address of it
pub record IsWire (adverts : List Advertisement) (a b : RouterId) (subnet : Prefix) : Type 0 where
  pub smaller : a.0 < b.0
  pub cost : ℕ
  pub address : ℕ
  pub edge : IsEdgeBetween adverts (vertex.Router a) (vertex.Router b) cost address
  pub shared : IsShared adverts a b address subnet
  pub longest : (other : Prefix) → IsShared adverts a b address other → other.length ≤ subnet.length

-- the prefix is 0.0.0.0/8, by which such links are named
pub record IsOfIndices (prefix : Prefix) : Type 0 where
  pub from_zero : prefix.address.0 ≡ 0
  pub of_eight : prefix.length ≡ 8

-- the links without addresses of two routers that have a link in a subnet too: those of this prefix
pub record IsUnnumbered (adverts : List Advertisement) (a b : RouterId) (prefix : Prefix)
    : Type 0 where
  pub smaller : a.0 < b.0
  pub cost : ℕ
  pub address : ℕ
  pub edge : IsEdgeBetween adverts (vertex.Router a) (vertex.Router b) cost address
  pub indices : IsOfIndices prefix
  pub unnumbered : IsInterfaceIndex address
  pub subnet : Prefix
  pub beside : IsWire adverts a b subnet

-- at no edge from the one to the other do two routers share a prefix
abbrev pub ShareNone : List Advertisement → RouterId → RouterId → Type 0
ShareNone adverts a b =
    (cost address : ℕ) (prefix : Prefix)
    → IsEdgeBetween adverts (vertex.Router a) (vertex.Router b) cost address
    → IsShared adverts a b address prefix → ⊥

-- the router is on the transit network
abbrev pub IsOn : List Advertisement → RouterId → ℕ → Type 0
IsOn adverts router n =
    (cost address : ℕ)
    × IsEdgeBetween adverts (vertex.Router router) (vertex.Network n) cost address

-- what may fail, of which no part fails alone but here, so no end of a link; interfaces to stub
-- networks are apart (`IsStubFailure`)
abbrev pub IsFailure : List Advertisement → failure.AreaFailure → Type 0
IsFailure adverts (fails.Link a b subnet) =
    IsWire adverts a b subnet ⊎ IsUnnumbered adverts a b subnet
IsFailure adverts (fails.End router other subnet) = ⊥
IsFailure adverts (Links a b) =
    (a.0 < b.0)
    × ((cost address : ℕ) × IsEdgeBetween adverts (vertex.Router a) (vertex.Router b) cost address)
    × ShareNone adverts a b
IsFailure adverts (Attachment router n) = IsOn adverts router n
IsFailure adverts (Network n) = (router : RouterId) × IsOn adverts router n
IsFailure adverts (Router router) = IsListed adverts router
IsFailure adverts (Stub router prefix) = ⊥

-- exactly what may fail is listed
abbrev pub AreFailures : List Advertisement → List failure.AreaFailure → Type 0
AreFailures adverts fs = (f : failure.AreaFailure) → Contains fs f ↔ IsFailure adverts f

-- the place of a failure's kind: links with a subnet, their ends, other links, attachments,
-- networks, routers, interfaces to stub networks
abbrev pub kind_place : failure.AreaFailure → ℕ
kind_place (fails.Link a b subnet) = 0
kind_place (fails.End router other subnet) = 1
kind_place (Links a b) = 2
kind_place (Attachment router n) = 3
kind_place (Network n) = 4
kind_place (Router router) = 5
kind_place (Stub router prefix) = 6

-- the order of failures: by kind, then by routers, subnet or network
abbrev pub IsFailureBefore : failure.AreaFailure → failure.AreaFailure → Type 0
IsFailureBefore (fails.Link a b p) (fails.Link c d q) =
    (a.0 < c.0) ⊎ ((a.0 ≡ c.0) × ((b.0 < d.0) ⊎ ((b.0 ≡ d.0) × IsPrefixBefore p q)))
IsFailureBefore (fails.End a b p) (fails.End c d q) =
    (a.0 < c.0) ⊎ ((a.0 ≡ c.0) × ((b.0 < d.0) ⊎ ((b.0 ≡ d.0) × IsPrefixBefore p q)))
IsFailureBefore (Links a b) (Links c d) = (a.0 < c.0) ⊎ ((a.0 ≡ c.0) × (b.0 < d.0))
IsFailureBefore (Attachment r n) (Attachment s m) = (r.0 < s.0) ⊎ ((r.0 ≡ s.0) × (n < m))
IsFailureBefore (Network n) (Network m) = n < m
IsFailureBefore (Router r) (Router s) = r.0 < s.0
IsFailureBefore (Stub r p) (Stub s q) = (r.0 < s.0) ⊎ ((r.0 ≡ s.0) × IsPrefixBefore p q)
IsFailureBefore f g = kind_place f < kind_place g

-- ---- prefixes by length

-- none of such prefixes is longer
abbrev pub IsLongestSuch : (Prefix → Type 0) → Prefix → Type 0
IsLongestSuch P prefix = P prefix × ((other : Prefix) → P other → other.length ≤ prefix.length)

-- the longest of such prefixes, if there is one
abbrev pub IsLongestOf : (Prefix → Type 0) → Option Prefix → Type 0
IsLongestOf P longest = MatchOption longest ((prefix : Prefix) → P prefix → ⊥) (IsLongestSuch P)

-- ---- over lists of edges and ends

-- one of the ends is that of the prefix
abbrev pub HasEndFor : List End → Prefix → Type 0
HasEndFor ends prefix =
    (at : Vertex) × (cost : ℕ)
    × Contains ends (record { prefix = prefix; vertex = at; cost = cost })

-- an edge leads from a router to another out of an address in the subnet, which is no index
abbrev pub LeadsBack : List Edge → RouterId → RouterId → Prefix → Type 0
LeadsBack edges from to subnet =
    (cost address : ℕ)
    × Contains edges
    (record { to = vertex.Router to; from = vertex.Router from; cost = cost; link_data = address })
    × (IsInterfaceIndex address → ⊥) × Holds subnet address

-- the prefix holds the address, which is none of an index, an end far is that of it, and an edge
-- leads back in it
abbrev pub IsSharedFar : List End → List Edge → ℕ → RouterId → RouterId → Prefix → Type 0
IsSharedFar far back address a b prefix =
    (IsInterfaceIndex address → ⊥) × Holds prefix address × HasEndFor far prefix
    × LeadsBack back b a prefix

-- and an end near is that of it too
abbrev pub IsSharedIn : List End → List End → List Edge → ℕ → RouterId → RouterId → Prefix → Type 0
IsSharedIn near far back address a b prefix =
    HasEndFor near prefix × IsSharedFar far back address a b prefix

-- ---- what edges and LSAs give

-- the failure is that of the link of two routers at an address of the first, in its subnet
abbrev pub IsWireAt
    : List Advertisement → RouterId → RouterId → ℕ → failure.AreaFailure → Type 0
IsWireAt adverts a b address f =
    (subnet : Prefix) × IsLongestSuch (IsShared adverts a b address) subnet
    × (f ≡ fails.Link a b subnet)

-- the failure is that of the link of an edge, seen from the router of the smaller Router ID
abbrev pub WireGiven : List Advertisement → Edge → failure.AreaFailure → Type 0
WireGiven adverts edge f =
    (a b : RouterId) × (edge.from ≡ vertex.Router a) × (edge.to ≡ vertex.Router b) × (a.0 < b.0)
    × IsWireAt adverts a b edge.link_data f

-- the number is that of the pair of routers of a link in a subnet
abbrev pub IsPairOf : failure.AreaFailure → ℕ → Type 0
IsPairOf f pair =
    (a b : RouterId) × (subnet : Prefix) × (f ≡ fails.Link a b subnet)
    × (pair ≡ pair_code a.0 b.0)

-- the failure is that of all links between two routers whose pair is not listed, so that no subnet
-- distinguishes the links
abbrev pub LinksGiven : List ℕ → Edge → failure.AreaFailure → Type 0
LinksGiven wired edge f =
    (a b : RouterId) × (edge.from ≡ vertex.Router a) × (edge.to ≡ vertex.Router b) × (a.0 < b.0)
    × (Contains wired (pair_code a.0 b.0) → ⊥) × (f ≡ Links a b)

-- the failure is that of the links without addresses of two routers, at the Link Data of one
abbrev pub IsUnnumberedAt : ℕ → RouterId → RouterId → failure.AreaFailure → Type 0
IsUnnumberedAt link_data a b f =
    (prefix : Prefix) × IsOfIndices prefix × IsInterfaceIndex link_data
    × (f ≡ fails.Link a b prefix)

-- the failure is that of the links without addresses of two routers whose pair is there
abbrev pub UnnumberedGiven : List ℕ → Edge → failure.AreaFailure → Type 0
UnnumberedGiven wired edge f =
    (a b : RouterId) × (edge.from ≡ vertex.Router a) × (edge.to ≡ vertex.Router b) × (a.0 < b.0)
    × Contains wired (pair_code a.0 b.0) × IsUnnumberedAt edge.link_data a b f

-- the failure is that of a router's link to a network
abbrev pub AttachmentGiven : Edge → failure.AreaFailure → Type 0
AttachmentGiven edge f =
    (router : RouterId) × (n : ℕ) × (edge.from ≡ vertex.Router router)
    × (edge.to ≡ vertex.Network n) × (f ≡ Attachment router n)

-- the failure is that of a network
abbrev pub NetworkGiven : Edge → failure.AreaFailure → Type 0
NetworkGiven edge f =
    (router : RouterId) × (n : ℕ) × (edge.from ≡ vertex.Router router)
    × (edge.to ≡ vertex.Network n) × (f ≡ Network n)

-- an edge gives this failure
abbrev pub EdgeGiven : List ℕ → Edge → failure.AreaFailure → Type 0
EdgeGiven wired edge f =
    ((LinksGiven wired edge f ⊎ UnnumberedGiven wired edge f) ⊎ AttachmentGiven edge f)
    ⊎ NetworkGiven edge f

-- the failure is that of the router of an LSA
abbrev pub RouterGiven : Advertisement → failure.AreaFailure → Type 0
RouterGiven (router_lsa r links) f = f ≡ Router r
RouterGiven (network_lsa n r mask attached) f = ⊥

-- what the elements of a list give
abbrev pub GivenBy : {X Y : Type 0} → (X → Y → Type 0) → List X → Y → Type 0
GivenBy {X} P xs y = (x : X) × Contains xs x × P x y
