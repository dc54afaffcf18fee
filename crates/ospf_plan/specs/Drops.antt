-- What a router drops of what another sends, by the settings of the two interfaces (RFC 2328,
-- sections 8.2, 10.5 and 10.6), and what `findings` says of it.
use Rattle.std.specs.Prelude.{◌≡◌, ◌==◌, ◌&&◌, ◌⊎◌, not, ℕ, true, false, List, Contains, Some, Err, bit_and}
use Rattle.ospf_base.specs.declared.ids.Addr.{Addr}
use Rattle.ospf_base.specs.declared.ids.AreaId.{AreaId}
use Rattle.ospf_base.specs.declared.ids.RouterId.{RouterId}
use Rattle.ospf_neighbour.specs.Interface.Hello.{own_hello}
use Rattle.ospf_neighbour.specs.Interface.Machine.{is_down}
use Rattle.ospf_neighbour.specs.declared.iface.machine.Iface.{Iface}
use Rattle.ospf_neighbour.specs.Neighbour.{NeighbourValue}
use Rattle.ospf_packet.specs.Meaning.{BodyMeaning, Meaning, hello, description, request, update, acknowledgment}
use Rattle.ospf_packet.specs.declared.body.Description.{Description}
use Rattle.ospf_packet.specs.declared.entry.RequestEntry.{RequestEntry}
use Rattle.ospf_lsa.specs.declared.header.LsaHeader.{LsaHeader}
use Rattle.ospf_exchange.specs.Exchange.{dd_answer}
use Rattle.ospf_exchange.specs.declared.fault.ExchangeFault.TheVariants as exchange
use Rattle.ospf_exchange.specs.declared.rule.Local.{Local}
use Rattle.ospf_area.specs.Packets.{dd_packet}
use Rattle.ospf_adjacency.specs.Adjacency.{is_broadcast}
use Rattle.ospf_router.specs.AreaStep.Receipt.{drop_of_description, drop_of_packet, is_destination}
use Rattle.ospf_router.specs.declared.step.dropped.Dropped.{Dropped}
use Rattle.ospf_router.specs.declared.step.dropped.Dropped.TheVariants as dropped
use Rattle.ospf_config.specs.declared.config.Config.{Config}
use Rattle.ospf_plan.specs.declared.ends.LinkEnd.{LinkEnd}
use Rattle.ospf_plan.specs.declared.fault.AreaFault.{AreaFault}
use Rattle.ospf_plan.specs.declared.fault.AreaFault.TheVariants as fault
use Rattle.ospf_plan.specs.declared.finding.Finding.{Finding}
use Rattle.ospf_plan.specs.Ends.{ends_of, network_key}
use Rattle.ospf_plan.specs.Findings.{found_in}
use Rattle.ospf_plan.specs.Laws.{IsIfaceOf, IsOfHellos}

-- ---- two routers

-- a router takes in at the interface e: its area, what its rules know of it, and the interface, in
-- whatever state
pub record IsRouterAt (e : LinkEnd) (local : Local) (a : AreaId) (i : Iface) : Type 0 where
  pub iface : IsIfaceOf e i
  pub router : i.settings.router ≡ e.router
  pub address : i.settings.address ≡ e.address.address
  pub area : a ≡ e.area
  pub mtu : local.mtu ≡ e.mtu

-- what a router sends out of the interface d: a Hello has its settings (9.5), a Database
-- Description its MTU (10.8), the others nothing of it
pub data IsBodyFrom (d : LinkEnd) : BodyMeaning → Type 0 where
  a_hello : (j : Iface) (heard : List RouterId) → IsIfaceOf d j
      → IsBodyFrom d (hello (own_hello j) heard)
  a_description : (j : Iface) (n : NeighbourValue) → IsBodyFrom d (dd_packet j d.mtu n).body
  a_request : (entries : List RequestEntry) → IsBodyFrom d (request entries)
  an_update : (lsas : List (List ℕ)) → IsBodyFrom d (update lsas)
  an_acknowledgment : (headers : List LsaHeader) → IsBodyFrom d (acknowledgment headers)

-- a packet that it sends from there, and from which address (8.1)
pub record IsSentFrom (d : LinkEnd) (a : Addr) (m : Meaning) : Type 0 where
  pub router : m.router ≡ d.router
  pub area : m.area ≡ d.area
  pub source : a ≡ d.address.address
  pub body : IsBodyFrom d m.body

-- ---- what is dropped

-- the router at e, whose interface is up, drops each packet that comes from d, and for this cause
abbrev pub DropsAll : LinkEnd → LinkEnd → Dropped → Type 0
DropsAll e d cause =
    (local : Local) (area : AreaId) (i : Iface) (neighbours : List NeighbourValue)
    (source destination : Addr) (m : Meaning) → IsRouterAt e local area i → IsSentFrom d source m
    → is_down i.state ≡ false
    → drop_of_packet local i neighbours area source destination m ≡ Some cause

-- nothing in the head of a packet lets the router drop it (8.2)
pub record PassesHead (i : Iface) (a : AreaId) (source to : Addr) (m : Meaning) : Type 0 where
  pub up : is_down i.state ≡ false
  pub area : (m.area.0 == a.0) ≡ true
  pub other : (m.router.0 == i.settings.router.0) ≡ false
  pub destination : is_destination i to ≡ true
  pub network :
      (is_broadcast i
      && not (bit_and source.0 i.settings.mask == bit_and i.settings.address.0 i.settings.mask))
      ≡ false

-- the router at e drops each Hello that comes from d and that nothing in its head stops, as one
-- that does not agree with the interface (10.5)
abbrev pub DropsHellos : LinkEnd → LinkEnd → Type 0
DropsHellos e d =
    (local : Local) (area : AreaId) (i j : Iface) (neighbours : List NeighbourValue)
    (source destination : Addr) (m : Meaning) (heard : List RouterId) → IsRouterAt e local area i
    → IsIfaceOf d j → m.body ≡ hello (own_hello j) heard → PassesHead i area source destination m
    → drop_of_packet local i neighbours area source destination m ≡ Some dropped.HelloMismatch

-- the router at e drops each Database Description that its neighbour sends from d, since its MTU is
-- too large (10.6)
abbrev pub DropsDescriptions : LinkEnd → LinkEnd → Type 0
DropsDescriptions e d =
    (local : Local) (area : AreaId) (i : Iface) (q : RouterId) (fields : Description)
    (headers : List LsaHeader) (n : NeighbourValue) → IsRouterAt e local area i
    → IsBodyFrom d (description fields headers) → (n.router.0 == q.0) ≡ true
    → (drop_of_description local q fields headers (Some n) ≡ Some dropped.State)
    × (dd_answer local q fields headers n ≡ Err exchange.Mtu)

-- ---- where something is found

-- each of two interfaces in different areas drops all of the other's packets as of another area
abbrev pub FoundAreaDrops : Type 0
FoundAreaDrops =
    (ends : List LinkEnd) (f : Finding) → Contains (found_in ends) f → f.fault ≡ fault.Area
    → DropsAll f.here f.other dropped.Area × DropsAll f.other f.here dropped.Area

-- of two routers of one Router ID, in one area, each drops all of the other's packets as its own
abbrev pub FoundRouterDrops : Type 0
FoundRouterDrops =
    (ends : List LinkEnd) (f : Finding) → Contains (found_in ends) f → f.fault ≡ fault.SameRouter
    → f.here.area ≡ f.other.area
    → DropsAll f.here f.other dropped.OwnPacket × DropsAll f.other f.here dropped.OwnPacket

-- of two interfaces of different intervals each drops all of the other's Hellos
abbrev pub FoundHelloDrops : Type 0
FoundHelloDrops =
    (ends : List LinkEnd) (f : Finding) → Contains (found_in ends) f → IsOfHellos f.fault
    → DropsHellos f.here f.other × DropsHellos f.other f.here

-- of two interfaces of different MTUs one drops all of the other's Database Descriptions
abbrev pub FoundMtuDrops : Type 0
FoundMtuDrops =
    (ends : List LinkEnd) (f : Finding) → Contains (found_in ends) f → f.fault ≡ fault.Mtu
    → DropsDescriptions f.here f.other ⊎ DropsDescriptions f.other f.here

-- ---- where nothing is found

-- no such fault is found of an interface on the network
abbrev pub NoneFound : (AreaFault → Type 0) → List LinkEnd → ℕ × ℕ → Type 0
NoneFound Of ends q =
    (f : Finding) → Contains (found_in ends) f → Of f.fault → network_key f.here.address ≡ q → ⊥

-- the router at e drops no packet that comes from d for this cause
abbrev pub NeverDrops : LinkEnd → LinkEnd → Dropped → Type 0
NeverDrops e d cause =
    (local : Local) (area : AreaId) (i : Iface) (neighbours : List NeighbourValue)
    (source destination : Addr) (m : Meaning) → IsRouterAt e local area i → IsSentFrom d source m
    → drop_of_packet local i neighbours area source destination m ≡ Some cause → ⊥

-- the MTU of no Database Description that comes from d is too large for the router at e
abbrev pub TakesLengths : LinkEnd → LinkEnd → Type 0
TakesLengths e d =
    (local : Local) (area : AreaId) (i : Iface) (q : RouterId) (fields : Description)
    (headers : List LsaHeader) (n : NeighbourValue) → IsRouterAt e local area i
    → IsBodyFrom d (description fields headers)
    → dd_answer local q fields headers n ≡ Err exchange.Mtu → ⊥

-- it holds of each two interfaces of a network of which no such fault is found
abbrev pub HoldsOfOthers : (AreaFault → Type 0) → (LinkEnd → LinkEnd → Type 0) → Type 0
HoldsOfOthers Of Holds =
    (ends : List LinkEnd) (d e : LinkEnd) → Contains ends d → Contains ends e
    → network_key d.address ≡ network_key e.address → NoneFound Of ends (network_key e.address)
    → Holds e d

-- where no `A3 Area` is found, no packet is dropped as of another area
abbrev pub OthersShareArea : Type 0
OthersShareArea = HoldsOfOthers (λ f. f ≡ fault.Area) (λ e d. NeverDrops e d dropped.Area)

-- no packet from an interface of the same network is dropped as from another network
abbrev pub OthersShareNetwork : Type 0
OthersShareNetwork =
    (d e : LinkEnd) → network_key d.address ≡ network_key e.address
    → NeverDrops e d dropped.Subnet

-- where no `A5 Hello` and no `A6 Dead` is found, no Hello is dropped as one that does not agree
abbrev pub OthersAgree : Type 0
OthersAgree = HoldsOfOthers IsOfHellos (λ e d. NeverDrops e d dropped.HelloMismatch)

-- where no `A7 Mtu` is found, no Database Description is dropped for its MTU
abbrev pub OthersShareMtu : Type 0
OthersShareMtu = HoldsOfOthers (λ f. f ≡ fault.Mtu) TakesLengths

-- where no `A1 SameRouter` is found, no router drops a packet of another as its own
abbrev pub OthersDiffer : Type 0
OthersDiffer =
    (configs : List Config) (d e : LinkEnd) → Contains (ends_of configs) d
    → Contains (ends_of configs) e → (d.file ≡ e.file → ⊥)
    → ((f : Finding) → Contains (found_in (ends_of configs)) f → f.fault ≡ fault.SameRouter → ⊥)
    → NeverDrops e d dropped.OwnPacket
