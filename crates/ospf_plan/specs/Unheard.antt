-- Interfaces of one network of which neither sends to the other: none hears a Hello of the
-- other (RFC 2328, section 10.5).
use Rattle.std.specs.Prelude.{◌≡◌, ◌==◌, ◌&&◌, ◌||◌, not, ℕ, Bool, List, [], filter, Option, None, Some, is_some, nat_lt, if◌then◌else◌, option_and_then}
use Rattle.std.specs.List.{filter_map, find}
use Rattle.std.specs.BTreeMap as tree
use Rattle.std.specs.Global.{Vec}
use Rattle.std.specs.Ordering.{nat_cmp, ordering_then}
use Rattle.ospf_plan.specs.declared.ends.LinkEnd.{LinkEnd}
use Rattle.ospf_plan.specs.declared.wires.PeerWire.{PeerWire}
use Rattle.ospf_plan.specs.declared.fault.AreaFault.TheVariants as fault
use Rattle.ospf_plan.specs.declared.finding.Finding.{Finding}
use Rattle.ospf_plan.specs.declared.unheard.Near.{Near}
use Rattle.ospf_plan.specs.Ends.{first_at_port, is_found, network_key, port_of, same_network}
use Rattle.ospf_plan.specs.Wires.{has_wire, is_beside, is_wired, wire_key}

-- it has a port, and is the first that has it
abbrev pub is_plugged : (ℕ → Option LinkEnd) → LinkEnd → Bool
is_plugged at_port e = is_some e.port && is_found (at_port (port_of e)) e

-- a wire to a port that no interface has, where a bridge may be or a router of another machine:
-- as one to port 0, which is none
abbrev pub outward_wire : (ℕ → Option LinkEnd) → PeerWire → Option PeerWire
outward_wire at_port w =
    if is_some (at_port w.peer) then None else Some (record { end = w.end; peer = 0 })

-- the interface sends to such a port
abbrev pub is_outward : (ℕ → Option LinkEnd) → List PeerWire → LinkEnd → Bool
is_outward at_port wires e = is_wired (filter_map (outward_wire at_port) wires) (wire_key e 0)

-- whom it has to hear on its network: where it is outward itself, those alone that are not, since
-- the others may hear it by bridges
abbrev pub to_hear : (LinkEnd → Bool) → List LinkEnd → LinkEnd → List LinkEnd
to_hear outward ends e =
    filter (λ d. is_beside d e) (if outward e then filter (λ d. not (outward d)) ends else ends)

-- neither sends to the other
abbrev pub are_silent : (ℕ × ℕ × ℕ → Bool) → LinkEnd → LinkEnd → Bool
are_silent wired d e = not (wired (wire_key d (port_of e)) || wired (wire_key e (port_of d)))

-- of an earlier file, or of the same and earlier
abbrev pub is_ahead : LinkEnd → LinkEnd → Bool
is_ahead d e = nat_lt d.file e.file || ((d.file == e.file) && nat_lt d.link e.link)

-- the first that it has to hear and of which neither sends to the
-- other, where that is an earlier one
abbrev pub unheard : (LinkEnd → List LinkEnd) → (ℕ × ℕ × ℕ → Bool) → LinkEnd → Option Finding
unheard near wired e =
    option_and_then
    (λ d. if is_ahead d e then Some (record { fault = fault.Unheard; other = d; here = e })
    else None) (find (λ d. are_silent wired d e) (near e))

-- the findings about the interfaces that have ports of their own, in their order
abbrev pub unheard_by : (ℕ → Option LinkEnd) → (ℕ × ℕ × ℕ → Bool) → List PeerWire → List LinkEnd
    → List Finding
unheard_by at_port wired wires ends =
    let some = filter (is_plugged at_port) ends in
    filter_map (unheard (to_hear (is_outward at_port wires) some) wired) some

-- the findings about these interfaces, which send along these wires
abbrev pub unheard_in : List LinkEnd → List PeerWire → List Finding
unheard_in ends wires = unheard_by (first_at_port ends) (is_wired wires) wires ends

-- ---- maps of them

-- the interfaces that a map has there
abbrev pub ends_in : Option (Vec LinkEnd) → List LinkEnd
ends_in None = []
ends_in (Some ends) = ends.items

-- what a map has on a network
abbrev pub members_in : tree.BTreeMap (ℕ × ℕ) (Vec LinkEnd) → ℕ × ℕ → List LinkEnd
members_in m q =
    ends_in (tree.get (λ (k q : ℕ × ℕ). ordering_then (nat_cmp k.0 q.0) (nat_cmp k.1 q.1)) m q)

-- the map has the interfaces of each network, in order
abbrev pub AreByNetwork : tree.BTreeMap (ℕ × ℕ) (Vec LinkEnd) → List LinkEnd → Type 0
AreByNetwork m ends =
    (q : ℕ × ℕ) → members_in m q ≡ filter (λ e. same_network (network_key e.address) q) ends

-- whom an interface has to hear
abbrev pub near_in : Near → LinkEnd → List LinkEnd
near_in n e =
    members_in (if has_wire n.outward (wire_key e 0) then n.inward else n.all)
    (network_key e.address)

-- it is so of these interfaces, of which those are outward
pub record IsNearOf (n : Near) (outward : LinkEnd → Bool) (ends : List LinkEnd) : Type 0 where
  pub outward_are : (e : LinkEnd) → has_wire n.outward (wire_key e 0) ≡ outward e
  pub all_are : AreByNetwork n.all ends
  pub inward_are : AreByNetwork n.inward (filter (λ e. not (outward e)) ends)
