-- The subnets of the point-to-point links between two routers (RFC 2328, section 12.4.1.1). Subnets
-- may lie one in another: then a link belongs to the longest one that holds its addresses.
use Rattle.std.specs.Prelude.{◌==◌, ◌&&◌, ◌∷◌, ◌++◌, ◌↔◌, [], ℕ, Bool, true, false, not, nat_lt, Contains, List, filter, bit_and}
use Rattle.std.specs.List.{list_any}
use Rattle.ospf_base.specs.Masks.{mask_of}
use Rattle.ospf_base.specs.declared.ids.RouterId.{RouterId}
use Rattle.ospf_base.specs.declared.prefix.Prefix.{Prefix}
use Rattle.ospf_lsa.specs.declared.link.Link.{Link}
use Rattle.ospf_lsa.specs.declared.link.LinkKind.{LinkKind}
use Rattle.ospf_lsa.specs.declared.link.LinkKind.TheVariants as kind

-- ---- links

-- a type 1 link to the router
abbrev pub is_link_to : Link → RouterId → Bool
is_link_to l router = by_kind l.kind
  where
    by_kind : LinkKind → Bool
    by_kind kind.PointToPoint = l.id == router.0
    by_kind _ = false

-- a type 3 link
abbrev pub is_stub_link : Link → Bool
is_stub_link l = by_kind l.kind
  where
    by_kind : LinkKind → Bool
    by_kind kind.Stub = true
    by_kind _ = false

-- the address lies in the subnet of the type 3 link
abbrev pub is_held : Link → ℕ → Bool
is_held stub address = bit_and address stub.link_data == bit_and stub.id stub.link_data

-- a type 3 link to the same subnet
abbrev pub is_same_stub : Link → Link → Bool
is_same_stub stub l = is_stub_link l && ((l.link_data == stub.link_data) && is_held stub l.id)

-- the Link Data is an address, and not the index of an interface, which lies in 0.0.0.0/8
abbrev pub is_address : ℕ → Bool
is_address link_data = not (nat_lt link_data 0x1000000)

-- a type 1 link to the router, out of an address in the subnet
abbrev pub is_link_in : Link → RouterId → Link → Bool
is_link_in stub router l =
    is_link_to l router && (is_address l.link_data && is_held stub l.link_data)

-- ---- subnets of two routers

-- a router of these links has a type 3 link to the subnet, and a type 1 link to the other router
-- out of an address there
abbrev pub is_end_in : Link → RouterId → List Link → Bool
is_end_in stub other links =
    list_any (is_same_stub stub) links && list_any (is_link_in stub other) links

-- both routers do: the subnet is one of their links
abbrev pub is_shared_stub : RouterId → RouterId → List Link → List Link → Link → Bool
is_shared_stub a b mine theirs stub =
    is_stub_link stub && (is_end_in stub a theirs && is_end_in stub b mine)

-- a subnet inside another one, and longer
abbrev pub is_inside : Prefix → Link → Bool
is_inside subnet stub =
    nat_lt (mask_of subnet.length) stub.link_data
    && (bit_and stub.id (mask_of subnet.length) == subnet.address.0)

-- 0.0.0.0/8 represents the links without addresses
abbrev pub indices : Link
indices = record { id = 0; link_data = 0xFF000000; kind = kind.Stub; metric = 0 }

-- of the subnets of links between two routers with these links, those inside this one and longer
abbrev pub inner_between
    : Prefix → RouterId → RouterId → List Link → List Link → List Link
inner_between subnet a b mine theirs =
    filter (λ l. is_inside subnet l && is_shared_stub a b mine theirs l) mine
    ++ filter (is_inside subnet) (indices ∷ [])

-- ---- lists

-- two lists have the same elements
abbrev pub HaveSame : List Link → List Link → Type 0
HaveSame xs ys = (l : Link) → Contains xs l ↔ Contains ys l
