-- What is wrong between the interfaces of an area.
use Rattle.std.specs.Prelude.{◌==◌, ◌&&◌, not, Bool, true, false, List, [], ◌∷◌, filter, Option, None, Some, is_some, if◌then◌else◌, option_and_then}
use Rattle.std.specs.List.{filter_map, flat_map}
use Rattle.ospf_base.specs.declared.interface.InterfaceKind.{InterfaceKind}
use Rattle.ospf_base.specs.declared.interface.InterfaceKind.TheVariants.{PointToPoint, Broadcast}
use Rattle.ospf_plan.specs.declared.ends.LinkEnd.{LinkEnd}
use Rattle.ospf_plan.specs.declared.fault.AreaFault.{AreaFault}
use Rattle.ospf_plan.specs.declared.fault.AreaFault.TheVariants as fault
use Rattle.ospf_plan.specs.declared.finding.Finding.{Finding}
use Rattle.ospf_plan.specs.declared.finding.Surroundings.{Surroundings}
use Rattle.ospf_plan.specs.Ends.{can_be_elected, first_around, first_at, first_at_port, first_of, first_on, is_found, is_same, is_slow_end, network_key, others, port_of}

-- the faults that are looked for at each interface, in the order in which they are reported
abbrev pub every_fault : List AreaFault
every_fault =
    fault.SameRouter ∷ fault.SameAddress ∷ fault.Area ∷ fault.Kind ∷ fault.Hello ∷ fault.Dead
    ∷ fault.Mtu ∷ fault.Mask ∷ fault.TooManyRouters
    ∷ fault.NoDr ∷ fault.Cost ∷ fault.NoNeighbor ∷ fault.Delay ∷ fault.SamePort
    ∷ fault.LoneDr ∷ []

-- the two are one kind
abbrev pub same_kind : InterfaceKind → InterfaceKind → Bool
same_kind PointToPoint PointToPoint = true
same_kind Broadcast Broadcast = true
same_kind _ _ = false

-- the first interface on its network but itself, of which these are the first two there
abbrev pub beside : Option LinkEnd → Option LinkEnd → LinkEnd → Option LinkEnd
beside first second e = if is_found first e then second else first

-- the interface with which a slow one does not settle: on a broadcast network any other, since the
-- Designated Router floods on what it gets; on a point-to-point network one that is slow too
-- (RFC 2328, sections 13.1 and 13.3)
abbrev pub delayed_with : List LinkEnd → LinkEnd → Option LinkEnd
delayed_with ends e =
    let q = network_key e.address in
    elim e.kind [
      | PointToPoint ↦ first_on (filter is_slow_end ends) q
      | Broadcast ↦ beside (first_on ends q) (first_on (others ends) q) e
    ]

-- what is around an interface: the first of its router's Router ID, the first with its address, on
-- its network the first three, the first two that can be elected and the one with which it does not
-- settle if it is slow, the first on the shortest network of fewer bits that holds its address, and
-- the first with its port
abbrev pub around_of : List LinkEnd → LinkEnd → Surroundings
around_of ends e =
    let q = network_key e.address in
    record {
      router = first_of ends e.router.0;
      holder = first_at ends e.address.address.0;
      first = first_on ends q;
      second = first_on (others ends) q;
      third = first_on (others (others ends)) q;
      elector = first_on (filter can_be_elected ends) q;
      successor = first_on (others (filter can_be_elected ends)) q;
      delayed = delayed_with ends e;
      wider = first_around ends e.address e.address.length;
      plug = first_at_port ends (port_of e);
    }

-- the other interface of the finding
abbrev pub other_of : AreaFault → Surroundings → Option LinkEnd
other_of fault.SameRouter a = a.router
other_of fault.SameAddress a = a.holder
other_of fault.Mask a = a.wider
other_of fault.TooManyRouters a = a.third
other_of fault.NoDr a = a.second
other_of fault.LoneDr a = a.elector
other_of fault.Delay a = a.delayed
other_of fault.SamePort a = a.plug
other_of _ a = a.first

-- it alone can be elected on a broadcast network of three or more (RFC 2328, section 9.4)
abbrev pub is_lone_dr : Surroundings → LinkEnd → Bool
is_lone_dr a e =
    is_found a.elector e && same_kind e.kind Broadcast && is_some a.third
    && not (is_some a.successor)

-- the fault is between the other interface d and this one
abbrev pub is_wrong : AreaFault → Surroundings → LinkEnd → LinkEnd → Bool
is_wrong fault.SameRouter a d e = (e.link == 0) && not (d.file == e.file)
is_wrong fault.SameAddress a d e = not (is_same d e)
is_wrong fault.Area a d e = not (d.area.0 == e.area.0)
is_wrong fault.Kind a d e = not (same_kind d.kind e.kind)
is_wrong fault.Hello a d e = not (d.hello == e.hello)
is_wrong fault.Dead a d e = not (d.dead == e.dead)
is_wrong fault.Mtu a d e = not (d.mtu == e.mtu)
is_wrong fault.Mask a d e = true
is_wrong fault.TooManyRouters a d e = is_found a.first e && same_kind e.kind PointToPoint
is_wrong fault.NoDr a d e =
    is_found a.first e && same_kind e.kind Broadcast && not (is_some a.elector)
is_wrong fault.LoneDr a d e = is_lone_dr a e
is_wrong fault.OneSided a d e = false
is_wrong fault.WrongSubnetPeer a d e = false
is_wrong (fault.UnknownPeer peer) a d e = false
is_wrong fault.Partitioned a d e = false
is_wrong fault.Unheard a d e = false
is_wrong fault.Cost a d e = same_kind e.kind PointToPoint && not (d.cost == e.cost)
is_wrong fault.NoNeighbor a d e = not (is_some a.second)
is_wrong fault.Delay a d e = is_slow_end e && not (is_same d e)
is_wrong fault.SamePort a d e = is_some e.port && not (is_same d e)

-- the finding, where the other interface is there and the fault is between the two
abbrev pub found : Surroundings → LinkEnd → AreaFault → Option Finding
found a e f =
    option_and_then
    (λ d. if is_wrong f a d e then Some (record { fault = f; other = d; here = e }) else None)
    (other_of f a)

-- what is found at an interface, in the order of the faults
abbrev pub found_at : List LinkEnd → LinkEnd → List Finding
found_at ends e = filter_map (found (around_of ends e) e) every_fault

-- what is found, in the order of the interfaces
abbrev pub found_in : List LinkEnd → List Finding
found_in ends = flat_map (found_at ends) ends
