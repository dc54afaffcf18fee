-- What a finding about a wire says.
use Rattle.std.proofs.Common.{◌≡◌, ◌⊎◌, Bool, true, false, not, List, ◌∙◌, ap, sym, subst, refl, inl, inr, Option, Some, None, option_map, if◌then◌else◌}
use Rattle.std.proofs.lemmas.Option.{same_Some}
use Rattle.std.specs.List.{Contains}
use Rattle.ospf_plan.specs.declared.ends.LinkEnd.{LinkEnd}
use Rattle.ospf_plan.specs.declared.wires.PeerWire.{PeerWire}
use Rattle.ospf_plan.specs.declared.fault.AreaFault.{AreaFault}
use Rattle.ospf_plan.specs.declared.fault.AreaFault.TheVariants as fault
use Rattle.ospf_plan.specs.declared.finding.Finding.{Finding}
use Rattle.ospf_plan.specs.Ends.{first_at_port, port_of}
use Rattle.ospf_plan.specs.Wires.{fault_behind, fault_between, is_beside, is_wired, wire_key, wire_fault, wire_faults_in}
use Rattle.ospf_plan.specs.Laws.{HoldsOfWire, IsFaultOfWire, to_another_network, to_nobody, to_silence}
use Rattle.ospf_plan.proofs.Members.{some_from, some_to}
use Rattle.ospf_plan.proofs.FindingLemmas.{none_is_some}

abbrev made : AreaFault → LinkEnd → LinkEnd → Finding
made x d e = record { fault = x; other = d; here = e }

-- what is wrong by whether the one is on the network, and sends back
abbrev pub chosen : Bool → Bool → Option AreaFault
chosen a b = if not a then Some fault.WrongSubnetPeer else if not b then Some fault.OneSided else None

pub by_choice : (a b : Bool) (x : AreaFault) → chosen a b ≡ Some x → ((a ≡ false) × (fault.WrongSubnetPeer ≡ x)) ⊎ ((a ≡ true) × (b ≡ false) × (fault.OneSided ≡ x))
by_choice false b x is = inl (refl, same_Some fault.WrongSubnetPeer x is)
by_choice true false x is = inr (refl, refl, same_Some fault.OneSided x is)
by_choice true true x is = absurd (none_is_some x is)

module _ (ends : List LinkEnd) (wires : List PeerWire) (w : PeerWire) (f : Finding) (among : Contains wires w) where
  says_so : (d : LinkEnd) (x : AreaFault) → first_at_port ends w.peer ≡ Some d → fault_between (is_wired wires) d w.end ≡ Some x → IsFaultOfWire ends wires w x d
  says_so d x at is = elim (by_choice (is_beside d w.end) (is_wired wires (wire_key d (port_of w.end))) x is) [
    | inl p ↦ subst (λ y. IsFaultOfWire ends wires w y d) p.1 (to_another_network d at p.0)
    | inr p ↦ subst (λ y. IsFaultOfWire ends wires w y d) p.2 (to_silence d at p.0 p.1)
  ]

  by_fault : (d : LinkEnd) (o : Option AreaFault) → first_at_port ends w.peer ≡ Some d → fault_between (is_wired wires) d w.end ≡ o → option_map (λ x. made x d w.end) o ≡ Some f
      → HoldsOfWire ends wires f
  by_fault d None at between is = absurd (none_is_some f is)
  by_fault d (Some x) at between is =
      subst (HoldsOfWire ends wires) (same_Some (made x d w.end) f is) (record { wire = w; among = among; here = refl; holds = says_so d x at between })

  by_port : (o : Option LinkEnd) → first_at_port ends w.peer ≡ o → fault_behind (is_wired wires) w o ≡ Some f → HoldsOfWire ends wires f
  by_port None at is = subst (HoldsOfWire ends wires) (same_Some (made (fault.UnknownPeer w.peer) w.end w.end) f is) (record { wire = w; among = among; here = refl; holds = to_nobody at })
  by_port (Some d) at is = by_fault d (fault_between (is_wired wires) d w.end) at refl is

pub wire_holds : (ends : List LinkEnd) (wires : List PeerWire) (f : Finding) → Contains (wire_faults_in ends wires) f → HoldsOfWire ends wires f
wire_holds ends wires f told =
    let (w, among, is) = some_from (wire_fault (first_at_port ends) (is_wired wires)) wires f told in
    by_port ends wires w f among (first_at_port ends w.peer) refl is

wire_found : (ends : List LinkEnd) (wires : List PeerWire) (w : PeerWire) (x : AreaFault) (d : LinkEnd) → IsFaultOfWire ends wires w x d
    → wire_fault (first_at_port ends) (is_wired wires) w ≡ Some (made x d w.end)
wire_found ends wires w _ _ (to_nobody at) = ap (fault_behind (is_wired wires) w) at
wire_found ends wires w _ _ (to_another_network d at off) =
    ap (fault_behind (is_wired wires) w) at
    ∙ ap (λ a. option_map (λ x. made x d w.end) (chosen a (is_wired wires (wire_key d (port_of w.end))))) off
wire_found ends wires w _ _ (to_silence d at on silent) =
    ap (fault_behind (is_wired wires) w) at
    ∙ ap (λ a. option_map (λ x. made x d w.end) (chosen a (is_wired wires (wire_key d (port_of w.end))))) on
    ∙ ap (λ b. option_map (λ x. made x d w.end) (chosen true b)) silent

pub wire_told : (ends : List LinkEnd) (wires : List PeerWire) (f : Finding) → HoldsOfWire ends wires f → Contains (wire_faults_in ends wires) f
wire_told ends wires f h =
    let same : Some (made f.fault f.other h.wire.end) ≡ Some f = ap (λ e. Some (made f.fault f.other e)) (sym h.here) in
    some_to (wire_fault (first_at_port ends) (is_wired wires)) wires f h.wire h.among (wire_found ends wires h.wire f.fault f.other h.holds ∙ same)
