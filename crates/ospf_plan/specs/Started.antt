-- Routers that were started by the configurations, after whatever they heard since: what each keeps
-- of its configuration, what it sends, and what it drops of what another sends.
use Rattle.std.specs.Prelude.{◌≡◌, ◌⊎◌, ℕ, ℤ, false, List, Contains, Some, Err, slice_get}
use Rattle.std.specs.List.{AllZip}
use Rattle.ospf_base.specs.declared.ids.Addr.{Addr}
use Rattle.ospf_base.specs.declared.ids.RouterId.{RouterId}
use Rattle.ospf_config.specs.declared.config.Config.{Config}
use Rattle.ospf_config.specs.declared.interface.Interface.{Interface}
use Rattle.ospf_lsa.specs.declared.header.LsaHeader.{LsaHeader}
use Rattle.ospf_packet.specs.Meaning.{Meaning, description, hello}
use Rattle.ospf_packet.specs.PacketOf.{packet_of}
use Rattle.ospf_packet.specs.declared.body.Description.{Description}
use Rattle.ospf_neighbour.specs.Interface.Hello.{own_hello}
use Rattle.ospf_neighbour.specs.Interface.Machine.{is_down}
use Rattle.ospf_neighbour.specs.declared.iface.machine.Iface.{Iface}
use Rattle.ospf_neighbour.specs.Neighbour.{NeighbourValue}
use Rattle.ospf_exchange.specs.Exchange.{dd_answer}
use Rattle.ospf_exchange.specs.declared.fault.ExchangeFault.TheVariants as exchange
use Rattle.ospf_area.specs.Outputs.{SentValue, no_outputs}
use Rattle.ospf_area.specs.Outboxes.{local_by}
use Rattle.ospf_area.specs.Sending.{context_of}
use Rattle.ospf_area.specs.State.{AreaValue, LinkValue}
use Rattle.ospf_router.specs.AreaStep.Receipt.{sender_in}
use Rattle.ospf_router.specs.AreaStep.Step.{Event}
use Rattle.ospf_router.specs.AreaStep.Step.Event.{Datagram}
use Rattle.ospf_router.specs.declared.step.dropped.Dropped.{Dropped}
use Rattle.ospf_router.specs.declared.step.dropped.Dropped.TheVariants as dropped
use Rattle.ospf_router.specs.Routers.{RouterValue}
use Rattle.ospf_router.specs.Starts.{IsStarted, iface_of}
use Rattle.ospf_router.specs.Steps.{Steps}
use Rattle.ospf_router.specs.declared.router.Step.{Step}
use Rattle.ospf_plan.specs.declared.ends.LinkEnd.{LinkEnd}
use Rattle.ospf_plan.specs.declared.fault.AreaFault.{AreaFault}
use Rattle.ospf_plan.specs.declared.fault.AreaFault.TheVariants as fault
use Rattle.ospf_plan.specs.declared.finding.Finding.{Finding}
use Rattle.ospf_plan.specs.Drops.{IsBodyFrom, IsRouterAt, IsSentFrom, NoneFound, PassesHead}
use Rattle.ospf_plan.specs.Ends.{ends_of, network_key}
use Rattle.ospf_plan.specs.Findings.{found_in}
use Rattle.ospf_plan.specs.Laws.{IsIfaceOf, IsOfHellos}

-- ---- a router of a configuration

-- a router that was started by the configuration, and has taken any events since
pub data WasStartedBy (config : Config) : RouterValue → Type 0 where
  starts : (dd_start : ℕ) (floor : ℤ) (r : RouterValue) → IsStarted config dd_start floor r
      → WasStartedBy config r
  steps : (e : Event) (before : RouterValue) (t : Step) (after : RouterValue)
      → WasStartedBy config before → Steps e before t after → WasStartedBy config after

-- a link with the settings of the interface
pub record HasSettings (router : RouterId) (i : Interface) (link : LinkValue) : Type 0 where
  pub iface : link.iface.settings ≡ (iface_of router i).settings
  pub cost : link.settings.cost ≡ i.cost
  pub retransmit : link.settings.retransmit ≡ i.retransmit
  pub transmit_delay : link.settings.transmit_delay ≡ i.transmit_delay
  pub mtu : link.settings.mtu ≡ i.mtu

-- its Router ID, its area and its links are those of the configuration
pub record IsConfigured (config : Config) (s : AreaValue) : Type 0 where
  pub router : s.router ≡ config.router_id
  pub area : s.area ≡ config.area
  pub links : AllZip (HasSettings config.router_id) config.interfaces.items s.links

-- as long as it runs they stay so, whatever it hears
abbrev pub StaysConfigured : Type 0
StaysConfigured =
    (config : Config) (r : RouterValue) (s : AreaValue) → WasStartedBy config r → r.area ≡ Some s
    → IsConfigured config s

-- and at each interface of its configuration it is a router as the laws of `Drops` ask for
abbrev pub StaysAt : Type 0
StaysAt =
    (configs : List Config) (e : LinkEnd) (config : Config) (r : RouterValue) (s : AreaValue)
    → Contains (ends_of configs) e → slice_get configs e.file ≡ Some config → WasStartedBy config r
    → r.area ≡ Some s
    → (there : LinkValue) × (slice_get s.links e.link ≡ Some there)
    × IsRouterAt e (local_by (context_of s) there.settings) s.area there.iface

-- and a packet that a step of it sends out of the link of the interface d is sent from d, and its
-- bytes are read as this packet
abbrev pub SendsFrom : Type 0
SendsFrom =
    (configs : List Config) (d : LinkEnd) (config : Config) (e : Event) (before : RouterValue)
    (t : Step) (after : RouterValue) (x : SentValue) → Contains (ends_of configs) d
    → slice_get configs d.file ≡ Some config → WasStartedBy config before → Steps e before t after
    → Contains t.out.sent x → x.link ≡ d.link
    → (packet_of x.bytes ≡ Some x.packet) × IsSentFrom d x.source x.packet

-- ---- a step of it

-- a packet comes in at the interface e of a router that was started by the configuration of e,
-- whose link there is this one, and the router takes a step by it
pub record IsArrivalAt (configs : List Config) (e : LinkEnd) (there : LinkValue)
    (source destination : Addr) (m : Meaning) (before : RouterValue) (t : Step)
    (after : RouterValue) : Type 0 where
  pub config : Config
  pub given : slice_get configs e.file ≡ Some config
  pub reached : WasStartedBy config before
  pub area : AreaValue
  pub runs : before.area ≡ Some area
  pub at : slice_get area.links e.link ≡ Some there
  pub bytes : List ℕ
  pub read : packet_of bytes ≡ Some m
  pub step : Steps (Datagram e.link source destination bytes) before t after

-- the step drops what came, for this cause, changes nothing and puts nothing out
pub record IsDropped (cause : Dropped) (before : RouterValue) (t : Step) (after : RouterValue)
    : Type 0 where
  pub cause_is : t.dropped ≡ Some cause
  pub unchanged : after.area ≡ before.area
  pub silent : t.out ≡ no_outputs

-- this holds of each step by which a packet that comes from d comes in at e
abbrev pub OfEachArrival : List Config → LinkEnd → LinkEnd
    → (LinkValue → Addr → Addr → Meaning → RouterValue → Step → RouterValue → Type 0) → Type 0
OfEachArrival configs e d Holds =
    (there : LinkValue) (source destination : Addr) (m : Meaning) (before : RouterValue) (t : Step)
    (after : RouterValue) → IsArrivalAt configs e there source destination m before t after
    → IsSentFrom d source m → Holds there source destination m before t after

-- it is dropped for this cause, where the link is up
abbrev pub StepsDrop : Dropped → List Config → LinkEnd → LinkEnd → Type 0
StepsDrop cause configs e d =
    OfEachArrival configs e d (λ there source destination m before t after.
    is_down there.iface.state ≡ false → IsDropped cause before t after)

-- it is not dropped for this cause
abbrev pub StepsNeverDrop : Dropped → List Config → LinkEnd → LinkEnd → Type 0
StepsNeverDrop cause configs e d =
    OfEachArrival configs e d (λ there source destination m before t after.
    t.dropped ≡ Some cause → ⊥)

-- a Hello is dropped: where nothing in its head stops it, since it does not agree
pub record HelloIsDropped (e : LinkEnd) (there : LinkValue) (source destination : Addr)
    (m : Meaning) (before : RouterValue) (t : Step) (after : RouterValue) : Type 0 where
  pub cause : Dropped
  pub is : IsDropped cause before t after
  pub here : PassesHead there.iface e.area source destination m → cause ≡ dropped.HelloMismatch

-- each Hello is
abbrev pub StepsDropHellos : List Config → LinkEnd → LinkEnd → Type 0
StepsDropHellos configs e d =
    OfEachArrival configs e d (λ there source destination m before t after.
    (j : Iface) (heard : List RouterId) → IsIfaceOf d j → m.body ≡ hello (own_hello j) heard
    → HelloIsDropped e there source destination m before t after)

-- a Database Description is dropped: where nothing in its head stops it, and a neighbour sent it,
-- as one that this neighbour may not send
pub record DescriptionIsDropped (e : LinkEnd) (there : LinkValue) (source destination : Addr)
    (m : Meaning) (before : RouterValue) (t : Step) (after : RouterValue) : Type 0 where
  pub cause : Dropped
  pub is : IsDropped cause before t after
  pub here : PassesHead there.iface e.area source destination m → (n : NeighbourValue)
      → sender_in there.iface there.neighbours m.router source ≡ Some n → n.router ≡ m.router
      → cause ≡ dropped.State

-- each Database Description is
abbrev pub StepsDropDescriptions : List Config → LinkEnd → LinkEnd → Type 0
StepsDropDescriptions configs e d =
    OfEachArrival configs e d (λ there source destination m before t after.
    (fields : Description) (headers : List LsaHeader) → m.body ≡ description fields headers
    → DescriptionIsDropped e there source destination m before t after)

-- none is refused for its MTU
abbrev pub StepsTakeLengths : List Config → LinkEnd → LinkEnd → Type 0
StepsTakeLengths configs e d =
    (config : Config) (r : RouterValue) (s : AreaValue) (there : LinkValue) (q : RouterId)
    (fields : Description) (headers : List LsaHeader) (n : NeighbourValue)
    → slice_get configs e.file ≡ Some config → WasStartedBy config r → r.area ≡ Some s
    → slice_get s.links e.link ≡ Some there → IsBodyFrom d (description fields headers)
    → dd_answer (local_by (context_of s) there.settings) q fields headers n ≡ Err exchange.Mtu → ⊥

-- ---- where something is found

-- `FoundAreaDrops` of the steps of such routers
abbrev pub FoundAreaSteps : Type 0
FoundAreaSteps =
    (configs : List Config) (f : Finding) → Contains (found_in (ends_of configs)) f
    → f.fault ≡ fault.Area
    → StepsDrop dropped.Area configs f.here f.other × StepsDrop dropped.Area configs f.other f.here

-- `FoundRouterDrops`
abbrev pub FoundRouterSteps : Type 0
FoundRouterSteps =
    (configs : List Config) (f : Finding) → Contains (found_in (ends_of configs)) f
    → f.fault ≡ fault.SameRouter → f.here.area ≡ f.other.area
    → StepsDrop dropped.OwnPacket configs f.here f.other
    × StepsDrop dropped.OwnPacket configs f.other f.here

-- `FoundHelloDrops`: none of the two takes a Hello of the other, ever
abbrev pub FoundHelloSteps : Type 0
FoundHelloSteps =
    (configs : List Config) (f : Finding) → Contains (found_in (ends_of configs)) f
    → IsOfHellos f.fault
    → StepsDropHellos configs f.here f.other × StepsDropHellos configs f.other f.here

-- `FoundMtuDrops`: one of the two takes no Database Description of the other, ever
abbrev pub FoundMtuSteps : Type 0
FoundMtuSteps =
    (configs : List Config) (f : Finding) → Contains (found_in (ends_of configs)) f
    → f.fault ≡ fault.Mtu
    → StepsDropDescriptions configs f.here f.other ⊎ StepsDropDescriptions configs f.other f.here

-- ---- where nothing is found

-- it holds of each two interfaces of a network of which no such fault is found
abbrev pub HoldsOfOtherSteps : (AreaFault → Type 0)
    → (List Config → LinkEnd → LinkEnd → Type 0) → Type 0
HoldsOfOtherSteps Of Holds =
    (configs : List Config) (d e : LinkEnd) → Contains (ends_of configs) d
    → Contains (ends_of configs) e → network_key d.address ≡ network_key e.address
    → NoneFound Of (ends_of configs) (network_key e.address) → Holds configs e d

-- `OthersShareArea` of the steps of such routers
abbrev pub OtherStepsShareArea : Type 0
OtherStepsShareArea = HoldsOfOtherSteps (λ f. f ≡ fault.Area) (StepsNeverDrop dropped.Area)

-- `OthersShareNetwork`
abbrev pub OtherStepsShareNetwork : Type 0
OtherStepsShareNetwork =
    (configs : List Config) (d e : LinkEnd) → Contains (ends_of configs) e
    → network_key d.address ≡ network_key e.address → StepsNeverDrop dropped.Subnet configs e d

-- `OthersAgree`
abbrev pub OtherStepsAgree : Type 0
OtherStepsAgree = HoldsOfOtherSteps IsOfHellos (StepsNeverDrop dropped.HelloMismatch)

-- `OthersShareMtu`
abbrev pub OtherStepsShareMtu : Type 0
OtherStepsShareMtu = HoldsOfOtherSteps (λ f. f ≡ fault.Mtu) StepsTakeLengths

-- `OthersDiffer`
abbrev pub OtherStepsDiffer : Type 0
OtherStepsDiffer =
    (configs : List Config) (d e : LinkEnd) → Contains (ends_of configs) d
    → Contains (ends_of configs) e → (d.file ≡ e.file → ⊥)
    → ((f : Finding) → Contains (found_in (ends_of configs)) f → f.fault ≡ fault.SameRouter → ⊥)
    → StepsNeverDrop dropped.OwnPacket configs e d
