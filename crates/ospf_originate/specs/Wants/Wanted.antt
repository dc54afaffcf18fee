-- The LSAs of its own that a router wants (RFC 2328, sections 12.4.1 and
-- 12.4.2; for a stub router RFC 6987; for suppressed subnets RFC 6860).
use Rattle.std.specs.Prelude.{◌==◌, ◌&&◌, ◌||◌, ◌∷◌, ◌++◌, ℕ, Bool, true, false, List, [], Option, map, filter, find, nat_lt, bit_and, if◌then◌else◌}
use Rattle.std.specs.List.{list_any, flat_map}
use Rattle.ospf_base.specs.Masks.{mask_of}
use Rattle.ospf_base.specs.declared.ids.Kind.TheVariants.{Router, Network}
use Rattle.ospf_base.specs.declared.ids.LsaKey.{LsaKey}
use Rattle.ospf_base.specs.declared.ids.RouterId.{RouterId}
use Rattle.ospf_base.specs.declared.interface.InterfaceKind.TheVariants as kind
use Rattle.ospf_base.specs.declared.stub_network.StubNetwork.{StubNetwork}
use Rattle.ospf_lsa.specs.declared.link.Link.{Link}
use Rattle.ospf_lsa.specs.declared.link.LinkKind.TheVariants.{PointToPoint, Transit, Stub}
use Rattle.ospf_area.specs.State.{LinkValue}
use Rattle.ospf_neighbour.specs.Interface.Machine.{is_down}
use Rattle.ospf_neighbour.specs.declared.iface.machine.IfaceState.TheVariants.{Dr}
use Rattle.ospf_base.specs.Keys.{same_key}
use Rattle.ospf_neighbour.specs.Neighbour.{NeighbourValue}
use Rattle.ospf_neighbour.specs.declared.machine.NeighbourState.TheVariants.{Full}

-- an LSA that is wanted, without its number: a router-LSA of a router with these links; or a
-- network-LSA of this Link State ID and router, with the network's mask and these attached routers
pub data WantedValue : Type 0 where
  RouterLsa : (router : RouterId) (links : List Link) → WantedValue
  NetworkLsa : (id : ℕ) (router : RouterId) (mask : ℕ) (routers : List RouterId) → WantedValue

-- ---- what is asked of a link

-- the neighbour is fully adjacent (10.1)
abbrev pub is_full : NeighbourValue → Bool
is_full n = elim n.state [ Full ↦ true | _ ↦ false ]

-- the router is the Designated Router of the link, and fully adjacent to someone there
abbrev pub is_dr_of : LinkValue → Bool
is_dr_of a = elim a.iface.state [ Dr ↦ true | _ ↦ false ] && list_any is_full a.neighbours

-- the link is one to a transit network: the router is fully adjacent to the Designated Router, or
-- is that itself and fully adjacent to someone (12.4.1.2)
abbrev pub is_transit : LinkValue → Bool
is_transit a =
    list_any (λ (n : NeighbourValue). is_full n && (n.address.0 == a.iface.dr.0)) a.neighbours
    || is_dr_of a

-- ---- the links of the router-LSA

-- to a router (12.4.1.1). The metric of a stub router's is MaxLinkMetric (RFC 6987)
abbrev pub router_link : Bool → LinkValue → NeighbourValue → Link
router_link stub_router a n =
    record {
      id = n.router.0;
      link_data = a.iface.settings.address.0;
      kind = PointToPoint;
      metric = (if stub_router then 0xffff else a.settings.cost);
    }

-- to a transit network (12.4.1.2). The metric of a stub router's is MaxLinkMetric (RFC 6987)
abbrev pub network_link : Bool → LinkValue → Link
network_link stub_router a =
    record {
      id = a.iface.dr.0;
      link_data = a.iface.settings.address.0;
      kind = Transit;
      metric = (if stub_router then 0xffff else a.settings.cost);
    }

-- to the link's own subnet (12.4.1.1, option 2, and 12.4.1.2)
abbrev pub subnet_link : LinkValue → Link
subnet_link a =
    record {
      id = bit_and a.iface.settings.address.0 a.iface.settings.mask;
      link_data = a.iface.settings.mask;
      kind = Stub;
      metric = a.settings.cost;
    }

-- to the subnet of a point-to-point link, unless it is suppressed: such a subnet only carries
-- traffic on, and a router hides it by listing no link to it (RFC 6860, section 2)
abbrev pub subnets_of : LinkValue → List Link
subnets_of a = if a.settings.suppressed then [] else subnet_link a ∷ []

-- the links of a link that is up (12.4.1): on one with two ends to the fully
-- adjacent neighbour, and then to the subnet; on a broadcast link to its transit
-- network, or else to its subnet (12.4.1.2), which is no transit-only network and is never
-- suppressed (RFC 6860, section 2)
unfoldable pub links_of_link : Bool → LinkValue → List Link
links_of_link stub_router a =
    if is_down a.iface.state then []
    else elim a.iface.settings.kind [
      | kind.PointToPoint ↦
          map (router_link stub_router a) (filter is_full a.neighbours) ++ subnets_of a
      | kind.Broadcast ↦ (if is_transit a then network_link stub_router a else subnet_link a) ∷ []
    ]

-- to a stub network: a host that the router reaches directly or an address of its own, with a mask
-- of 32 ones (appendix C.7), or the network of a passive interface (12.4.1). A stub router's keeps
-- its metric (RFC 6987)
abbrev pub stub_link : StubNetwork → Link
stub_link n =
    record {
      id = n.prefix.address.0;
      link_data = mask_of n.prefix.length;
      kind = Stub;
      metric = n.cost;
    }

-- the links that the interfaces make
abbrev pub interface_links : Bool → List LinkValue → List Link
interface_links stub_router links = flat_map (links_of_link stub_router) links

-- the links of the router-LSA: those of the interfaces, and after them those to stub networks, all
-- in configuration order (12.4.1)
abbrev pub own_links : Bool → List LinkValue → List StubNetwork → List Link
own_links stub_router links stubs = interface_links stub_router links ++ map stub_link stubs

-- ---- network-LSAs

-- the routers of the network (12.4.2): the fully adjacent ones whose Router IDs are less than
-- this router's own, this one, and the fully adjacent ones whose Router IDs are greater
abbrev pub attached_routers : RouterId → List NeighbourValue → List RouterId
attached_routers router ns =
    map (λ n. n.router) (filter (λ n. is_full n && nat_lt n.router.0 router.0) ns)
    ++ (router ∷ map (λ n. n.router) (filter (λ n. is_full n && nat_lt router.0 n.router.0) ns))

-- the mask in a network-LSA: the network's own or, where it is suppressed, 255.255.255.255, which
-- hides the network and leaves the address of the Designated Router (RFC 6860, section 2)
abbrev pub advertised_mask : LinkValue → ℕ
advertised_mask a = if a.settings.suppressed then 0xffffffff else a.iface.settings.mask

-- the network-LSA of a link, which its Designated Router wants (12.4.2)
unfoldable pub network_of : RouterId → LinkValue → WantedValue
network_of router a =
    NetworkLsa a.iface.settings.address.0 router (advertised_mask a)
    (attached_routers router a.neighbours)

-- ---- all of them

-- a router wants its router-LSA, and the network-LSAs of those links of which it is the
-- Designated Router, which are in configuration order (12.4)
unfoldable pub wanted_lsas : Bool → RouterId → List LinkValue → List StubNetwork → List WantedValue
wanted_lsas stub_router router links stubs =
    RouterLsa router (own_links stub_router links stubs)
    ∷ map (network_of router) (filter is_dr_of links)

-- what names a wanted LSA (12.1)
abbrev pub wanted_key : WantedValue → LsaKey
wanted_key (RouterLsa router links) = record { kind = Router; id = router.0; router = router }
wanted_key (NetworkLsa id router mask routers) = record { kind = Network; id = id; router = router }

-- the wanted LSA of a key, if there is one
abbrev pub wanted_of : List WantedValue → LsaKey → Option WantedValue
wanted_of ws key = find (λ w. same_key (wanted_key w) key) ws
