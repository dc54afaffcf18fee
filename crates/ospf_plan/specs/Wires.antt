-- Who sends to whom, by UDP ports.
use Rattle.std.specs.Prelude.{◌≡◌, ◌==◌, ◌&&◌, not, ℕ, Bool, List, [], ◌∷◌, filter, map, Option, None, Some, if◌then◌else◌, option_map}
use Rattle.std.specs.List.{enumerate_from, filter_map, flat_map, list_any}
use Rattle.std.specs.BTreeSet as sorted
use Rattle.std.specs.Ordering.{nat_cmp, ordering_then}
use Rattle.ospf_config.specs.declared.config.Config.{Config}
use Rattle.ospf_config.specs.declared.interface.Interface.{Interface}
use Rattle.ospf_config.specs.declared.interface.Port.{Port}
use Rattle.ospf_plan.specs.declared.ends.LinkEnd.{LinkEnd}
use Rattle.ospf_plan.specs.declared.wires.PeerWire.{PeerWire}
use Rattle.ospf_plan.specs.declared.fault.AreaFault.{AreaFault}
use Rattle.ospf_plan.specs.declared.fault.AreaFault.TheVariants as fault
use Rattle.ospf_plan.specs.declared.finding.Finding.{Finding}
use Rattle.ospf_plan.specs.Ends.{link_end_of, first_at_port, network_key, port_of, same_network}

-- what an interface sends to
abbrev pub wires_from : LinkEnd → Interface → List PeerWire
wires_from e i = map (λ (p : Port). record { end = e; peer = p.number }) i.peers.items

-- what the interfaces of a configuration send to, in order
abbrev pub wires_at : ℕ × Config → List PeerWire
wires_at f =
    flat_map (λ i. wires_from (link_end_of f i) i.1) (enumerate_from 0 f.1.interfaces.items)

-- what distinguishes wires
abbrev pub wire_key : LinkEnd → ℕ → ℕ × ℕ × ℕ
wire_key e p = (e.file, e.link, p)

-- the two are one wire
abbrev pub same_wire : ℕ × ℕ × ℕ → ℕ × ℕ × ℕ → Bool
same_wire k q = (k.0 == q.0) && (k.1 == q.1) && (k.2 == q.2)

-- each wire once, where it is first: a port may be named twice in the `peers` of an interface
abbrev pub distinct : List PeerWire → List PeerWire
distinct [] = []
distinct (w ∷ ws) =
    w
    ∷ filter (λ v. not (same_wire (wire_key w.end w.peer) (wire_key v.end v.peer))) (distinct ws)

-- what the interfaces of all configurations send to, in order and each once
abbrev pub wires_of : List Config → List PeerWire
wires_of configs = distinct (flat_map wires_at (enumerate_from 0 configs))

-- one of the wires is this
abbrev pub is_wired : List PeerWire → ℕ × ℕ × ℕ → Bool
is_wired wires q = list_any (λ w. same_wire (wire_key w.end w.peer) q) wires

-- the two are on one network
abbrev pub is_beside : LinkEnd → LinkEnd → Bool
is_beside d e = same_network (network_key d.address) (network_key e.address)

-- what is wrong where an interface sends to the interface d: that one is not on its
-- network, or does not send to it
abbrev pub fault_between : (ℕ × ℕ × ℕ → Bool) → LinkEnd → LinkEnd → Option AreaFault
fault_between wired d e =
    if not (is_beside d e) then Some fault.WrongSubnetPeer
    else if not (wired (wire_key d (port_of e))) then Some fault.OneSided
    else None

-- what is wrong with a wire that leads to the interface, or to none
abbrev pub fault_behind : (ℕ × ℕ × ℕ → Bool) → PeerWire → Option LinkEnd → Option Finding
fault_behind wired w None =
    Some (record { fault = fault.UnknownPeer w.peer; other = w.end; here = w.end })
fault_behind wired w (Some d) =
    option_map (λ f. record { fault = f; other = d; here = w.end }) (fault_between wired d w.end)

-- what is wrong with a wire
abbrev pub wire_fault : (ℕ → Option LinkEnd) → (ℕ × ℕ × ℕ → Bool) → PeerWire → Option Finding
wire_fault at_port wired w = fault_behind wired w (at_port w.peer)

-- what is wrong with the wires, in their order
abbrev pub wire_faults_in : List LinkEnd → List PeerWire → List Finding
wire_faults_in ends wires = filter_map (wire_fault (first_at_port ends) (is_wired wires)) wires

-- ---- sets of them

-- the set has this wire
abbrev pub has_wire : sorted.BTreeSet (ℕ × ℕ × ℕ) → ℕ × ℕ × ℕ → Bool
has_wire s q =
    sorted.contains
    (λ (a b : ℕ × ℕ × ℕ). ordering_then (ordering_then (nat_cmp a.0 b.0) (nat_cmp a.1 b.1))
    (nat_cmp a.2 b.2)) s q

-- the set has these wires and no others
abbrev pub AreHeard : sorted.BTreeSet (ℕ × ℕ × ℕ) → List PeerWire → Type 0
AreHeard s wires = (q : ℕ × ℕ × ℕ) → has_wire s q ≡ is_wired wires q
