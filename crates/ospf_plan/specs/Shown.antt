-- What is printed of findings.
use Rattle.std.specs.Prelude.{ℕ, Bool, true, false, List, [], Option, None, Some, codes, decimal, ◌++◌}
use Rattle.ospf_base.specs.Text.{number_text}
use Rattle.ospf_config.specs.Texts.{kind_text}
use Rattle.ospf_config.specs.declared.interface.Port.{Port}
use Rattle.ospf_plan.specs.declared.ends.LinkEnd.{LinkEnd}
use Rattle.ospf_plan.specs.declared.finding.Finding.{Finding}
use Rattle.ospf_plan.specs.declared.told.NamedFinding.{NamedFinding}
use Rattle.ospf_plan.specs.declared.fault.AreaFault.{AreaFault}
use Rattle.ospf_plan.specs.declared.fault.AreaFault.TheVariants as fault

-- the number and the name of a fault
abbrev pub area_fault_text : AreaFault → List ℕ
area_fault_text fault.SameRouter = codes "A1 SameRouter"
area_fault_text fault.SameAddress = codes "A2 SameAddress"
area_fault_text fault.Area = codes "A3 Area"
area_fault_text fault.Kind = codes "A4 Kind"
area_fault_text fault.Hello = codes "A5 Hello"
area_fault_text fault.Dead = codes "A6 Dead"
area_fault_text fault.Mtu = codes "A7 Mtu"
area_fault_text fault.Mask = codes "A8 Mask"
area_fault_text fault.TooManyRouters = codes "A9 TooManyRouters"
area_fault_text fault.NoDr = codes "A10 NoDr"
area_fault_text fault.OneSided = codes "A11 OneSided"
area_fault_text fault.Cost = codes "A12 Cost"
area_fault_text fault.NoNeighbor = codes "A13 NoNeighbor"
area_fault_text fault.Delay = codes "A14 Delay"
area_fault_text fault.SamePort = codes "A15 SamePort"
area_fault_text fault.WrongSubnetPeer = codes "A16 WrongSubnetPeer"
area_fault_text (fault.UnknownPeer peer) = codes "A17 UnknownPeer"
area_fault_text fault.Partitioned = codes "A18 Partitioned"
area_fault_text fault.Unheard = codes "A19 Unheard"
area_fault_text fault.LoneDr = codes "A20 LoneDr"

-- what is a note, and no fault
abbrev pub is_note : AreaFault → Bool
is_note fault.Cost = true
is_note fault.NoNeighbor = true
is_note (fault.UnknownPeer peer) = true
is_note fault.LoneDr = true
is_note _ = false

-- what follows from a fault
abbrev pub meaning_text : AreaFault → List ℕ
meaning_text fault.SameRouter =
    codes
    "each drops the other's packets as its own, and each flushes the other's LSAs (RFC 2328, sections 8.2 and 13.4)"
meaning_text fault.SameAddress =
    codes
    "a packet to this address may reach either router; as neighbors, each is the other's next hop at its own address (section 16.1.1)"
meaning_text fault.Area = codes "each drops the other's packets (section 8.2)"
meaning_text fault.Kind =
    codes
    "one end elects a Designated Router and the other does not: they may reach Full, but no route uses the network (sections 9.4 and 16.1)"
meaning_text fault.Hello =
    codes "each drops the other's Hellos: they never become neighbors (section 10.5)"
meaning_text fault.Dead =
    codes "each drops the other's Hellos: they never become neighbors (section 10.5)"
meaning_text fault.Mtu =
    codes
    "the router with the smaller MTU drops the other's Database Descriptions: they never reach Full (section 10.6)"
meaning_text fault.Mask =
    codes
    "the prefixes overlap, so these are two networks: on a broadcast network neither hears the other; over a point-to-point link they may reach Full, and each advertises its own (sections 8.2 and 10.5)"
meaning_text fault.TooManyRouters =
    codes "each end accepts the first router that it hears as its only neighbor (section 8.2)"
meaning_text fault.NoDr =
    codes "no Designated Router is elected, so no adjacency forms (sections 9.4 and 10.4)"
meaning_text fault.OneSided =
    codes "in `run`, one hears the other but is not heard: they never get past Init (section 10.5)"
meaning_text fault.Cost = codes "traffic may take different paths in the two directions"
meaning_text fault.NoNeighbor = codes "no other interface is on this network: it is a stub"
meaning_text fault.Delay =
    codes
    "an LSA returns older than it is known: they may never reach Full, and send to each other without end (sections 13.1 and 13.3)"
meaning_text fault.SamePort = codes "a port can be opened only once: `run` stops there"
meaning_text fault.WrongSubnetPeer =
    codes "in `run` broadcast interfaces drop its packets (section 8.2)"
meaning_text (fault.UnknownPeer peer) = codes "no router of these files listens on this port"
meaning_text fault.Partitioned =
    codes "the area is partitioned: over these networks no route leads there"
meaning_text fault.Unheard = codes "in `run`, they never become neighbors (section 10.5)"
meaning_text fault.LoneDr =
    codes
    "if this router fails, the others elect no Designated Router: no adjacency forms, and no route uses the network (sections 9.4 and 10.4)"

-- the port of an interface, if it has one
abbrev pub port_text : Option Port → List ℕ
port_text None = codes "no port"
port_text (Some port) = codes "port " ++ decimal port.number

-- a value of an interface that a fault is about, with its key
abbrev pub value_text : AreaFault → LinkEnd → List ℕ
value_text fault.SameRouter e = codes "router_id " ++ number_text e.router.0
value_text fault.Partitioned e = codes "router_id " ++ number_text e.router.0
value_text fault.Area e = codes "area " ++ number_text e.area.0
value_text fault.Kind e = codes "kind " ++ kind_text e.kind
value_text fault.Hello e = codes "hello " ++ decimal e.hello
value_text fault.Dead e = codes "dead " ++ decimal e.dead
value_text fault.Mtu e = codes "mtu " ++ decimal e.mtu
value_text fault.NoDr e = codes "priority " ++ decimal e.priority
value_text fault.LoneDr e = codes "priority " ++ decimal e.priority
value_text fault.OneSided e = port_text e.port
value_text fault.Cost e = codes "cost " ++ decimal e.cost
value_text fault.Delay e = codes "transmit_delay " ++ decimal e.transmit_delay
value_text fault.SamePort e = port_text e.port
value_text fault.WrongSubnetPeer e = port_text e.port
value_text fault.Unheard e = port_text e.port
value_text (fault.UnknownPeer peer) e = codes "peers " ++ decimal peer
value_text _ e =
    codes "address " ++ number_text e.address.address.0 ++ codes "/" ++ decimal e.address.length

-- where the value stands: at the top, or at an interface
abbrev pub place_text : AreaFault → LinkEnd → List ℕ
place_text fault.SameRouter e = []
place_text fault.Partitioned e = []
place_text _ e = codes "interface " ++ decimal e.link ++ codes ": "

-- what an interface has, and where
abbrev pub side_text : AreaFault → LinkEnd → List ℕ
side_text f e = place_text f e ++ value_text f e

-- what the other interface has, and nothing where there is none
abbrev pub other_text : AreaFault → LinkEnd → List ℕ → List ℕ
other_text fault.NoNeighbor e name = []
other_text (fault.UnknownPeer peer) e name = []
other_text fault.LoneDr e name = []
other_text f e name = codes ", " ++ name ++ codes ": " ++ side_text f e

-- as `b.toml: A5 Hello: interface 1: hello 5, a.toml: interface 0: hello
-- 10`, by the names of the two files
abbrev pub finding_text : Finding → (here other : List ℕ) → List ℕ
finding_text f here other =
    (here ++ codes ": " ++ area_fault_text f.fault ++ codes ": ") ++ side_text f.fault f.here
    ++ other_text f.fault f.other other

-- the text of a finding
abbrev pub told_text : NamedFinding → List ℕ
told_text t = finding_text t.finding t.here.now t.other.now
