-- LSAs compared as bytes, piece by piece (RFC 2328, section 12.4).
use Rattle.std.specs.Prelude.{ℕ, Bool, true, false, List, [], ◌∷◌, ◌&&◌, Option, None, Some, length, take, drop, nat_lt, if◌then◌else◌}
use Rattle.std.specs.List.{flat_map}
use Rattle.std.specs.Str.{bytes_eq}
use Rattle.ospf_area.specs.State.{LinkValue}
use Rattle.ospf_base.specs.declared.ids.RouterId.{RouterId}
use Rattle.ospf_base.specs.declared.stub_network.StubNetwork.{StubNetwork}
use Rattle.ospf_lsa.specs.Attached.{router_bytes}
use Rattle.ospf_lsa.specs.Link.{link_bytes}
use Rattle.ospf_neighbour.specs.Neighbour.{NeighbourValue}
use Rattle.ospf_originate.specs.Wants.Wanted.{is_full, links_of_link, router_link, stub_link, subnet_link}

-- what follows these bytes, if the others begin with them
unfoldable pub behind : List ℕ → Option (List ℕ) → Option (List ℕ)
behind front None = None
behind front (Some bytes) =
    if bytes_eq (take (length front) bytes) front then Some (drop (length front) bytes) else None

-- nothing follows them
unfoldable pub is_end : Option (List ℕ) → Bool
is_end None = false
is_end (Some []) = true
is_end (Some (byte ∷ rest)) = false

-- the bytes of the link to a neighbour, which there is where it is fully adjacent (12.4.1)
unfoldable pub router_link_bytes : Bool → LinkValue → NeighbourValue → List ℕ
router_link_bytes stub_router a n =
    if is_full n then link_bytes (router_link stub_router a n) else []

-- the bytes of the links of a link
unfoldable pub links_bytes : Bool → LinkValue → List ℕ
links_bytes stub_router a = flat_map link_bytes (links_of_link stub_router a)

-- the bytes of the link to the subnet of a point-to-point link, unless it is suppressed (RFC 6860,
-- section 2)
unfoldable pub subnet_bytes : LinkValue → List ℕ
subnet_bytes a = if a.settings.suppressed then [] else link_bytes (subnet_link a)

-- the bytes of the link to a stub network
abbrev pub stub_bytes : StubNetwork → List ℕ
stub_bytes n = link_bytes (stub_link n)

-- the bytes of a neighbour that a network-LSA names before the router itself, if it does (12.4.2)
unfoldable pub lower_bytes : RouterId → NeighbourValue → List ℕ
lower_bytes router n =
    if is_full n && nat_lt n.router.0 router.0 then router_bytes n.router else []

-- the bytes of a neighbour that a network-LSA names behind the router itself, if it does
unfoldable pub higher_bytes : RouterId → NeighbourValue → List ℕ
higher_bytes router n =
    if is_full n && nat_lt router.0 n.router.0 then router_bytes n.router else []
