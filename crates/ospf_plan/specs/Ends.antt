-- The interfaces of an area's configurations, and the networks that they are on.
use Rattle.std.specs.Prelude.{◌≡◌, ◌==◌, ◌&&◌, not, ℕ, zero, suc, Bool, false, List, map, filter, Option, None, Some, nat_lt, bit_and}
use Rattle.std.specs.Option.{option_or}
use Rattle.ospf_base.specs.Masks.{mask_of}
use Rattle.ospf_base.specs.Constants.{max_age_diff}
use Rattle.std.specs.List.{enumerate_from, find, flat_map}
use Rattle.std.specs.BTreeMap as tree
use Rattle.std.specs.Ordering.{nat_cmp, ordering_then}
use Rattle.ospf_config.specs.Conflicts.{network_part}
use Rattle.ospf_config.specs.declared.config.Config.{Config}
use Rattle.ospf_config.specs.declared.interface.Interface.{Interface}
use Rattle.ospf_config.specs.declared.address.InterfaceAddress.{InterfaceAddress}
use Rattle.ospf_plan.specs.declared.ends.LinkEnd.{LinkEnd}
use Rattle.ospf_plan.specs.declared.maps.Maps.{Maps}

-- ---- the interfaces

-- an interface of a configuration, with their numbers
abbrev pub link_end_of : ℕ × Config → ℕ × Interface → LinkEnd
link_end_of f i = record {
  file = f.0;
  link = i.0;
  router = f.1.router_id;
  area = f.1.area;
  kind = i.1.kind;
  address = i.1.address;
  cost = i.1.cost;
  priority = i.1.priority;
  hello = i.1.hello;
  dead = i.1.dead;
  mtu = i.1.mtu;
  transmit_delay = i.1.transmit_delay;
  port = i.1.port;
}

-- the interfaces of a configuration, in order
abbrev pub ends_at : ℕ × Config → List LinkEnd
ends_at f = map (link_end_of f) (enumerate_from 0 f.1.interfaces.items)

-- the interfaces of configurations, in order
abbrev pub ends_of : List Config → List LinkEnd
ends_of configs = flat_map ends_at (enumerate_from 0 configs)

-- the same interface of the same configuration
abbrev pub is_same : LinkEnd → LinkEnd → Bool
is_same d e = (d.file == e.file) && (d.link == e.link)

-- it can be elected (RFC 2328, section 9.4)
abbrev pub can_be_elected : LinkEnd → Bool
can_be_elected e = nat_lt 0 e.priority

-- an InfTransDelay by which an LSA becomes another instance as it is sent
-- (RFC 2328, sections 13.1 and 13.3)
abbrev pub is_slow : ℕ → Bool
is_slow delay = nat_lt max_age_diff delay

-- the interface has such a one
abbrev pub is_slow_end : LinkEnd → Bool
is_slow_end e = is_slow e.transmit_delay

-- the port of an interface, and 0 where it has none
abbrev pub port_of : LinkEnd → ℕ
port_of e = elim e.port [ None ↦ 0 | Some p ↦ p.number ]

-- ---- the networks: a length, and the address without the bits behind so many

-- the network of an interface
abbrev pub network_key : InterfaceAddress → ℕ × ℕ
network_key a = (a.length, network_part a)

-- the two are one network
abbrev pub same_network : ℕ × ℕ → ℕ × ℕ → Bool
same_network k q = (k.0 == q.0) && (k.1 == q.1)

-- the first of the interfaces on the network
abbrev pub first_on : List LinkEnd → ℕ × ℕ → Option LinkEnd
first_on ends q = find (λ e. same_network (network_key e.address) q) ends

-- the first of the interfaces with the address
abbrev pub first_at : List LinkEnd → ℕ → Option LinkEnd
first_at ends a = find (λ e. e.address.address.0 == a) ends

-- the first of the interfaces of a router with the Router ID
abbrev pub first_of : List LinkEnd → ℕ → Option LinkEnd
first_of ends r = find (λ e. e.router.0 == r) ends

-- the first of the interfaces with the port
abbrev pub first_at_port : List LinkEnd → ℕ → Option LinkEnd
first_at_port ends p = find (λ e. port_of e == p) ends

-- the network of so many bits that holds an address
abbrev pub network_under : InterfaceAddress → ℕ → ℕ × ℕ
network_under a n = (n, bit_and a.address.0 (mask_of n))

-- the first of the interfaces on the shortest network of fewer than n bits that holds the address
abbrev pub first_around : List LinkEnd → InterfaceAddress → ℕ → Option LinkEnd
first_around ends a zero = None
first_around ends a (suc n) = option_or (first_around ends a n) (first_on ends (network_under a n))

-- the interface is the one that was found
abbrev pub is_found : Option LinkEnd → LinkEnd → Bool
is_found None e = false
is_found (Some d) e = is_same d e

-- those that are not the first on their networks
abbrev pub others : List LinkEnd → List LinkEnd
others ends = filter (λ e. not (is_found (first_on ends (network_key e.address)) e)) ends

-- ---- maps of them

-- what a map has at a network
abbrev pub end_in : tree.BTreeMap (ℕ × ℕ) LinkEnd → ℕ × ℕ → Option LinkEnd
end_in m q = tree.get (λ (k q : ℕ × ℕ). ordering_then (nat_cmp k.0 q.0) (nat_cmp k.1 q.1)) m q

-- the map has the first on each network
abbrev pub AreFirsts : tree.BTreeMap (ℕ × ℕ) LinkEnd → List LinkEnd → Type 0
AreFirsts m ends = (q : ℕ × ℕ) → end_in m q ≡ first_on ends q

-- what a map has at an address
abbrev pub holder_in : tree.BTreeMap ℕ LinkEnd → ℕ → Option LinkEnd
holder_in m a = tree.get nat_cmp m a

-- the map has the first of each router
abbrev pub AreRouters : tree.BTreeMap ℕ LinkEnd → List LinkEnd → Type 0
AreRouters m ends = (r : ℕ) → holder_in m r ≡ first_of ends r

-- the map has the first with each address
abbrev pub AreHolders : tree.BTreeMap ℕ LinkEnd → List LinkEnd → Type 0
AreHolders m ends = (a : ℕ) → holder_in m a ≡ first_at ends a

-- the map has the first with each port
abbrev pub ArePorts : tree.BTreeMap ℕ LinkEnd → List LinkEnd → Type 0
ArePorts m ends = (p : ℕ) → holder_in m p ≡ first_at_port ends p

-- the maps of an area's interfaces
pub record AreMaps (m : Maps) (ends : List LinkEnd) : Type 0 where
  pub routers : AreRouters m.routers ends
  pub holders : AreHolders m.holders ends
  pub firsts : AreFirsts m.firsts ends
  pub seconds : AreFirsts m.seconds (others ends)
  pub thirds : AreFirsts m.thirds (others (others ends))
  pub electors : AreFirsts m.electors (filter can_be_elected ends)
  pub successors : AreFirsts m.successors (others (filter can_be_elected ends))
  pub slow : AreFirsts m.slow (filter is_slow_end ends)
  pub ports : ArePorts m.ports ends
