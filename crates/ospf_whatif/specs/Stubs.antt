-- The interfaces to stub networks of an area: a router's LANs with hosts and no other router, and
-- its links whose neighbor is lost (RFC 2328, section 12.4.1).
use Rattle.std.specs.Prelude.{◌≡◌, ◌==◌, ◌&&◌, ◌↔◌, ◌⊎◌, ◌<◌, ℕ, Bool, true, false, not, nat_lt, List, Contains, bit_and}
use Rattle.std.specs.List.{list_any}
use Rattle.ospf_base.specs.Masks.{mask_of}
use Rattle.ospf_base.specs.Prefixes.{IsPrefixOf}
use Rattle.ospf_base.specs.declared.ids.RouterId.{RouterId}
use Rattle.ospf_base.specs.declared.prefix.Prefix.{Prefix}
use Rattle.ospf_lsa.specs.declared.link.Link.{Link}
use Rattle.ospf_lsa.specs.declared.link.LinkKind.{LinkKind}
use Rattle.ospf_lsa.specs.declared.link.LinkKind.TheVariants as kind
use Rattle.ospf_graph.specs.Advertisements.{Advertisement, router_lsa, network_lsa}
use Rattle.ospf_whatif.specs.Single.{GivenBy, IsFailure}
use Rattle.ospf_whatif.specs.Subnets.{is_address, is_held, is_stub_link}
use Rattle.ospf_whatif.specs.declared.failure.AreaFailure.{AreaFailure}
use Rattle.ospf_whatif.specs.declared.failure.AreaFailure.TheVariants as fails

-- a link to another router or to a transit network, whose Link Data is the address of its interface
abbrev pub is_numbered : Link → Bool
is_numbered l = by_kind l.kind
  where
    by_kind : LinkKind → Bool
    by_kind kind.PointToPoint = is_address l.link_data
    by_kind kind.Transit = true
    by_kind kind.Stub = false
    by_kind kind.Virtual = false

-- a type 3 link to a longer prefix of less than 32 bits, in which the address lies
abbrev pub is_longer_at : Prefix → ℕ → Link → Bool
is_longer_at prefix address l =
    is_stub_link l && (nat_lt (mask_of prefix.length) l.link_data
    && (nat_lt l.link_data 0xFFFFFFFF && is_held l address))

-- the prefix is the longest one of these links, host routes apart, in which the address of such an
-- interface lies
abbrev pub is_subnet_of : List Link → Prefix → Link → Bool
is_subnet_of links prefix l =
    is_numbered l && ((bit_and l.link_data (mask_of prefix.length) == prefix.address.0)
    && not (list_any (is_longer_at prefix l.link_data) links))

-- the link is of type 3, to the prefix, which has less than 32 bits: one of 32 bits is an address
-- of the router or a host, and no interface fails with it (section 12.4.1.1); and it is not the
-- subnet of a link of the router to another router or to a transit network
pub record IsLoneStubLink (links : List Link) (link : Link) (prefix : Prefix) : Type 0 where
  pub stub : link.kind ≡ kind.Stub
  pub prefix_is : IsPrefixOf link.id link.link_data prefix
  pub wide : prefix.length < 32
  pub alone : list_any (is_subnet_of links prefix) links ≡ false

-- a router's interface to a stub network
pub record IsStubInterface (adverts : List Advertisement) (router : RouterId) (prefix : Prefix)
    : Type 0 where
  pub links : List Link
  pub listed : Contains adverts (router_lsa router links)
  pub link : Link
  pub link_in : Contains links link
  pub is : IsLoneStubLink links link prefix

-- the failure is that of such an interface
abbrev pub IsStubFailure : List Advertisement → AreaFailure → Type 0
IsStubFailure adverts f =
    (router : RouterId) × (prefix : Prefix) × IsStubInterface adverts router prefix
    × (f ≡ fails.Stub router prefix)

-- what may fail, interfaces to stub networks too
abbrev pub IsAnyFailure : List Advertisement → AreaFailure → Type 0
IsAnyFailure adverts f = IsFailure adverts f ⊎ IsStubFailure adverts f

-- exactly what may fail is listed, interfaces to stub networks too
abbrev pub AreAllFailures : List Advertisement → List AreaFailure → Type 0
AreAllFailures adverts fs = (f : AreaFailure) → Contains fs f ↔ IsAnyFailure adverts f

-- ---- on the way

-- a link of a router gives this failure
abbrev pub StubGiven : RouterId → List Link → Link → AreaFailure → Type 0
StubGiven router links link f =
    (prefix : Prefix) × IsLoneStubLink links link prefix × (f ≡ fails.Stub router prefix)

-- an LSA gives this failure
abbrev pub StubGivenBy : Advertisement → AreaFailure → Type 0
StubGivenBy (router_lsa router links) f = GivenBy (StubGiven router links) links f
StubGivenBy (network_lsa n router mask attached) f = ⊥
