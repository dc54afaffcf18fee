-- A router that starts: all links are down, and its database is empty
-- (RFC 2328, sections 9.1 and 12.2).
use Rattle.std.specs.Prelude.{◌≡◌, ℕ, ℤ, List, [], Some, false, length}
use Rattle.std.specs.List.{AllZip}
use Rattle.ospf_area.specs.State.{AreaValue, LinkValue}
use Rattle.ospf_base.specs.Addresses.{nowhere}
use Rattle.ospf_base.specs.Masks.{mask_of}
use Rattle.ospf_base.specs.declared.ids.RouterId.{RouterId}
use Rattle.ospf_config.specs.declared.config.Config.{Config}
use Rattle.ospf_config.specs.declared.interface.Interface.{Interface}
use Rattle.ospf_neighbour.specs.declared.iface.machine.Iface.{Iface}
use Rattle.ospf_neighbour.specs.declared.iface.machine.IfaceState.TheVariants.{Down}
use Rattle.ospf_router.specs.Routers.{RouterValue}

-- the interface of a link that is down (9.1)
abbrev pub iface_of : RouterId → Interface → Iface
iface_of router i = record {
  settings =
      record {
        router = router;
        kind = i.kind;
        address = i.address.address;
        mask = mask_of i.address.length;
        priority = i.priority;
        hello = i.hello;
        dead = i.dead;
      };
  state = Down;
  dr = nowhere;
  backup = nowhere;
  wait = 0;
  hello_in = 0;
}

-- a link that is down, with the settings of its interface
pub record IsLinkOf (router : RouterId) (i : Interface) (link : LinkValue) : Type 0 where
  pub iface : link.iface ≡ iface_of router i
  pub cost : link.settings.cost ≡ i.cost
  pub retransmit : link.settings.retransmit ≡ i.retransmit
  pub transmit_delay : link.settings.transmit_delay ≡ i.transmit_delay
  pub mtu : link.settings.mtu ≡ i.mtu
  pub suppressed : link.settings.suppressed ≡ i.prefix_suppression
  pub neighbours : link.neighbours ≡ []
  pub delayed : link.delayed ≡ []
  pub elects : link.elects ≡ false

-- the links of a configuration, in its order
abbrev pub AreLinksOf : RouterId → List Interface → List LinkValue → Type 0
AreLinksOf router interfaces links = AllZip (IsLinkOf router) interfaces links

-- the router's part of the area
abbrev pub area_of : Config → ℕ → ℤ → List LinkValue → AreaValue
area_of config dd_start floor links = record {
  router = config.router_id;
  area = config.area;
  stub_router = config.stub_router;
  passes_over = config.passes_over;
  links = links;
  stubs = config.stubs.items;
  database = [];
  direct = [];
  numbering = [];
  floor = floor;
  tick = 0;
  next_dd = dd_start;
  sent = [];
  heard = [];
  max_seq = floor;
}

-- the area of a router that starts by this configuration
pub record IsAreaOf (config : Config) (dd_start : ℕ) (floor : ℤ) (s : AreaValue) : Type 0 where
  pub links : AreLinksOf config.router_id config.interfaces.items s.links
  pub rest : s ≡ area_of config dd_start floor s.links

-- a router that has just started
pub record IsStarted (config : Config) (dd_start : ℕ) (floor : ℤ) (r : RouterValue) : Type 0 where
  pub area : AreaValue
  pub runs : r.area ≡ Some area
  pub is : IsAreaOf config dd_start floor area
  pub table : r.table ≡ []
  pub links : r.links ≡ length config.interfaces.items
  pub floor_is : r.floor ≡ floor
