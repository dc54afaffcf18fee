-- Laws of findings.
use Rattle.std.specs.Prelude.{◌≡◌, ◌↔◌, ◌⊎◌, ◌&&◌, ◌<◌, ℕ, Bool, true, false, List, Contains, None, Some}
use Rattle.ospf_base.specs.Masks.{mask_of}
use Rattle.ospf_base.specs.Rising.{IsRisingBy}
use Rattle.ospf_neighbour.specs.Interface.Hello.{agrees, own_hello}
use Rattle.ospf_neighbour.specs.declared.iface.machine.Iface.{Iface}
use Rattle.ospf_plan.specs.declared.ends.LinkEnd.{LinkEnd}
use Rattle.ospf_plan.specs.declared.fault.AreaFault.{AreaFault}
use Rattle.ospf_plan.specs.declared.fault.AreaFault.TheVariants as fault
use Rattle.ospf_plan.specs.declared.finding.Finding.{Finding}
use Rattle.ospf_config.specs.declared.config.Config.{Config}
use Rattle.ospf_plan.specs.declared.wires.PeerWire.{PeerWire}
use Rattle.ospf_plan.specs.Ends.{ends_of, first_at_port, network_key, port_of}
use Rattle.ospf_plan.specs.Wires.{is_beside, is_wired, wire_key, wire_faults_in, wires_of}
use Rattle.ospf_plan.specs.Unheard.{are_silent, is_outward, is_plugged, unheard_in}
use Rattle.ospf_plan.specs.Parts.{AreFindings, IsWay, adjacent_ends, apart_in, first_of_all}
use Rattle.ospf_plan.specs.Findings.{around_of, found_in, is_wrong, other_of}

-- the finding holds: its interface is one of these, its other is whom the fault is about,
-- and the fault is between the two
pub record FindingHolds (ends : List LinkEnd) (f : Finding) : Type 0 where
  pub here : Contains ends f.here
  pub other : other_of f.fault (around_of ends f.here) ≡ Some f.other
  pub wrong : is_wrong f.fault (around_of ends f.here) f.other f.here ≡ true

-- the fault holds of a wire: no interface has its port, or that which has it is on another
-- network, or does not send back
pub data IsFaultOfWire (ends : List LinkEnd) (wires : List PeerWire) (w : PeerWire)
    : AreaFault → LinkEnd → Type 0 where
  to_nobody : first_at_port ends w.peer ≡ None
      → IsFaultOfWire ends wires w (fault.UnknownPeer w.peer) w.end
  to_another_network : (d : LinkEnd) → first_at_port ends w.peer ≡ Some d
      → is_beside d w.end ≡ false → IsFaultOfWire ends wires w fault.WrongSubnetPeer d
  to_silence : (d : LinkEnd) → first_at_port ends w.peer ≡ Some d → is_beside d w.end ≡ true
      → is_wired wires (wire_key d (port_of w.end)) ≡ false
      → IsFaultOfWire ends wires w fault.OneSided d

-- the finding holds of a wire of its interface
pub record HoldsOfWire (ends : List LinkEnd) (wires : List PeerWire) (f : Finding) : Type 0 where
  pub wire : PeerWire
  pub among : Contains wires wire
  pub here : f.here ≡ wire.end
  pub holds : IsFaultOfWire ends wires wire f.fault f.other

-- in an earlier configuration, or in the same and earlier
abbrev pub IsAhead : LinkEnd → LinkEnd → Type 0
IsAhead d e = (d.file < e.file) ⊎ ((d.file ≡ e.file) × (d.link < e.link))

-- d is an earlier interface of the network of e, each is the first with its port, and neither sends
-- to the other; nor do both send outward
pub record IsUnheard (ends : List LinkEnd) (wires : List PeerWire) (d e : LinkEnd) : Type 0 where
  pub here : Contains ends e
  pub other : Contains ends d
  pub plugged_here : is_plugged (first_at_port ends) e ≡ true
  pub plugged_other : is_plugged (first_at_port ends) d ≡ true
  pub ahead : IsAhead d e
  pub beside : is_beside d e ≡ true
  pub hearing :
      (is_outward (first_at_port ends) wires d && is_outward (first_at_port ends) wires e) ≡ false
  pub silent : are_silent (is_wired wires) d e ≡ true

-- the finding holds of two interfaces, and its other is the first that it holds of
pub record HoldsUnheard (ends : List LinkEnd) (wires : List PeerWire) (f : Finding) : Type 0 where
  pub fault : f.fault ≡ fault.Unheard
  pub unheard : IsUnheard ends wires f.other f.here
  pub first : (d : LinkEnd) → IsUnheard ends wires d f.here → (f.other ≡ d) ⊎ IsAhead f.other d

-- the finding holds of a file: no way over interfaces that can become adjacent leads there from
-- the first, and its interface is the first of it
pub record HoldsApart (ends : List LinkEnd) (f : Finding) : Type 0 where
  pub fault : f.fault ≡ fault.Partitioned
  pub here : Contains ends f.here
  pub link : f.here.link ≡ 0
  pub other : first_of_all ends ≡ Some f.other
  pub apart : IsWay (adjacent_ends ends) 0 f.here.file → ⊥

-- the findings about configurations are exactly what holds of their interfaces, of who sends to
-- whom, of who does not hear whom, and of the parts of the area
abbrev pub TellsExactly : Type 0
TellsExactly =
    (configs : List Config) (fs : List Finding) (f : Finding) → AreFindings configs fs
    → Contains fs f
    ↔ (((FindingHolds (ends_of configs) f ⊎ HoldsOfWire (ends_of configs) (wires_of configs) f)
    ⊎ HoldsUnheard (ends_of configs) (wires_of configs) f)
    ⊎ HoldsApart (ends_of configs) f)

-- of each two interfaces of which neither hears the other, the later one is reported
abbrev pub TellsEachUnheard : Type 0
TellsEachUnheard =
    (configs : List Config) (d e : LinkEnd) → IsUnheard (ends_of configs) (wires_of configs) d e
    → (f : Finding) × Contains (unheard_in (ends_of configs) (wires_of configs)) f × (f.here ≡ e)

-- ---- the order of the findings

-- the number of a fault, as its name has it
abbrev pub area_fault_number : AreaFault → ℕ
area_fault_number fault.SameRouter = 1
area_fault_number fault.SameAddress = 2
area_fault_number fault.Area = 3
area_fault_number fault.Kind = 4
area_fault_number fault.Hello = 5
area_fault_number fault.Dead = 6
area_fault_number fault.Mtu = 7
area_fault_number fault.Mask = 8
area_fault_number fault.TooManyRouters = 9
area_fault_number fault.NoDr = 10
area_fault_number fault.OneSided = 11
area_fault_number fault.Cost = 12
area_fault_number fault.NoNeighbor = 13
area_fault_number fault.Delay = 14
area_fault_number fault.SamePort = 15
area_fault_number fault.WrongSubnetPeer = 16
area_fault_number (fault.UnknownPeer peer) = 17
area_fault_number fault.Partitioned = 18
area_fault_number fault.Unheard = 19
area_fault_number fault.LoneDr = 20

-- of an earlier interface, or of the same and of a fault of lesser number
abbrev pub IsFindingBefore : Finding → Finding → Type 0
IsFindingBefore f g =
    IsAhead f.here g.here
    ⊎ ((f.here ≡ g.here) × (area_fault_number f.fault < area_fault_number g.fault))

-- the findings about interfaces are in order, and so each is reported once
abbrev pub TellsInOrder : Type 0
TellsInOrder = (configs : List Config) → IsRisingBy IsFindingBefore (found_in (ends_of configs))

-- of an earlier interface, or another finding of the same
abbrev pub IsWireFindingBefore : Finding → Finding → Type 0
IsWireFindingBefore f g = IsAhead f.here g.here ⊎ ((f.here ≡ g.here) × (f ≡ g → ⊥))

-- the findings about who sends to whom are in the order of the interfaces, each once
abbrev pub TellsWiresInOrder : Type 0
TellsWiresInOrder =
    (configs : List Config)
    → IsRisingBy IsWireFindingBefore (wire_faults_in (ends_of configs) (wires_of configs))

-- the findings about who does not hear whom are in the order of the interfaces, and so each once
abbrev pub TellsUnheardInOrder : Type 0
TellsUnheardInOrder =
    (configs : List Config)
    → IsRisingBy (λ (f g : Finding). IsAhead f.here g.here)
    (unheard_in (ends_of configs) (wires_of configs))

-- the findings about the parts of the area are in the order of the files, and so each once
abbrev pub TellsPartsInOrder : Type 0
TellsPartsInOrder =
    (configs : List Config) (reached : ℕ → Bool)
    → IsRisingBy (λ (f g : Finding). IsAhead f.here g.here) (apart_in reached (ends_of configs))

-- ---- Hellos

-- an interface of a router that is so configured
pub record IsIfaceOf (e : LinkEnd) (i : Iface) : Type 0 where
  pub kind : i.settings.kind ≡ e.kind
  pub mask : i.settings.mask ≡ mask_of e.address.length
  pub hello : i.settings.hello ≡ e.hello
  pub dead : i.settings.dead ≡ e.dead

-- a fault by which Hellos do not agree
abbrev pub IsOfHellos : AreaFault → Type 0
IsOfHellos f = (f ≡ fault.Hello) ⊎ (f ≡ fault.Dead)

-- the interface does not agree with a Hello that the other sends
-- (RFC 2328, sections 9.5 and 10.5)
abbrev pub RefusesHellos : LinkEnd → LinkEnd → Type 0
RefusesHellos e d =
    (i j : Iface) → IsIfaceOf e i → IsIfaceOf d j → agrees i (own_hello j) ≡ false

-- it agrees with each
abbrev pub TakesHellos : LinkEnd → LinkEnd → Type 0
TakesHellos e d =
    (i j : Iface) → IsIfaceOf e i → IsIfaceOf d j → agrees i (own_hello j) ≡ true

-- two interfaces with a reported fault of Hellos refuse each other's Hellos
abbrev pub ToldRefuse : Type 0
ToldRefuse =
    (ends : List LinkEnd) (f : Finding) → Contains (found_in ends) f → IsOfHellos f.fault
    → RefusesHellos f.here f.other × RefusesHellos f.other f.here

-- no fault of Hellos is reported for an interface on the network
abbrev pub NoneTold : List LinkEnd → ℕ × ℕ → Type 0
NoneTold ends q =
    (f : Finding) → Contains (found_in ends) f → IsOfHellos f.fault → network_key f.here.address ≡ q
    → ⊥

-- on a network for which none is reported, each two interfaces accept each other's Hellos
abbrev pub OthersTake : Type 0
OthersTake =
    (ends : List LinkEnd) (d e : LinkEnd) → Contains ends d → Contains ends e
    → network_key d.address ≡ network_key e.address → NoneTold ends (network_key e.address)
    → TakesHellos d e
