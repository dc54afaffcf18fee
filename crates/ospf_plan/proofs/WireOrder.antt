-- The order in which is told who sends to whom.
use Rattle.std.proofs.Common.{rules, ◌≡◌, ◌⊎◌, ◌<◌, ◌==◌, ◌||◌, ◌++◌, ◌∙◌, ℕ, Bool, true, false, not, arith, filter, List, [], ◌∷◌, map, ap, sym, subst, refl, inl, inr, Option, Some, None, option_map, cond, if◌then◌else◌}
use Rattle.std.proofs.lemmas.List.Elements.{filter-append}
use Rattle.std.proofs.lemmas.List.Folds.{list_any-append}
use Rattle.std.proofs.lemmas.Option.{same_Some}
use Rattle.std.specs.List.{Contains, enumerate_from, flat_map}
use Rattle.ospf_config.specs.declared.config.Config.{Config}
use Rattle.ospf_config.specs.declared.interface.Interface.{Interface}
use Rattle.ospf_config.specs.declared.interface.Port.{Port}
use Rattle.ospf_plan.specs.declared.ends.LinkEnd.{LinkEnd}
use Rattle.ospf_plan.specs.declared.wires.PeerWire.{PeerWire}
use Rattle.ospf_plan.specs.declared.fault.AreaFault.{AreaFault}
use Rattle.ospf_plan.specs.declared.fault.AreaFault.TheVariants as fault
use Rattle.ospf_plan.specs.declared.finding.Finding.{Finding}
use Rattle.ospf_plan.specs.Ends.{link_end_of, ends_of, first_at_port, port_of}
use Rattle.ospf_plan.specs.Wires.{distinct, fault_behind, is_beside, is_wired, same_wire, wire_fault, wire_faults_in, wire_key, wires_at, wires_from, wires_of}
use Rattle.ospf_plan.specs.Laws.{IsAhead, IsWireFindingBefore}
use Rattle.ospf_plan.proofs.Words.{RisesBy}
use Rattle.ospf_plan.proofs.Members.{filter_from, flat_from, found_from, head_in, in_cases, later_in}
use Rattle.ospf_plan.proofs.FindingLemmas.{none_is_some}
use Rattle.ospf_plan.proofs.Order.{map_from, rising_filter, rising_flat, rising_numbers, rising_some}
use Rattle.ospf_plan.proofs.WireLemmas.{by_choice, chosen}

-- of an earlier interface, or of the same
abbrev IsWireNotBehind : PeerWire → PeerWire → Type 0
IsWireNotBehind w v = IsAhead w.end v.end ⊎ (w.end ≡ v.end)

abbrev wire_to : LinkEnd → Port → PeerWire
wire_to e p = record { end = e; peer = p.number }

one_end : (e : LinkEnd) (ps : List Port) → RisesBy IsWireNotBehind (map (wire_to e) ps)
one_end e [] = tt
one_end e (p ∷ ps) = ((λ v at. let (q, among, is) = map_from (wire_to e) ps v at in inr (ap (λ (w : PeerWire). w.end) is)), one_end e ps)

end_from : (e : LinkEnd) (i : Interface) (w : PeerWire) → Contains (wires_from e i) w → e ≡ w.end
end_from e i w at = let (q, among, is) = map_from (wire_to e) i.peers.items w at in ap (λ (v : PeerWire). v.end) is

file_from : (f : ℕ × Config) (w : PeerWire) → Contains (wires_at f) w → f.0 ≡ w.end.file
file_from f w at =
    let (i, among, here) = flat_from (λ (i : ℕ × Interface). wires_from (link_end_of f i) i.1) (enumerate_from 0 f.1.interfaces.items) w at in
    ap (λ (e : LinkEnd). e.file) (end_from (link_end_of f i) i.1 w here)

wires_rise_at : (f : ℕ × Config) → RisesBy IsWireNotBehind (wires_at f)
wires_rise_at f =
    rising_flat (λ (a b : ℕ × Interface). a.0 < b.0) IsWireNotBehind (λ (i : ℕ × Interface). wires_from (link_end_of f i) i.1) (enumerate_from 0 f.1.interfaces.items)
    (rising_numbers 0 f.1.interfaces.items)
    (λ i. one_end (link_end_of f i) i.1.peers.items)
    (λ i j w v lt here there. inl (subst (λ e. IsAhead w.end e) (end_from (link_end_of f j) j.1 v there) (subst (λ e. IsAhead e (link_end_of f j)) (end_from (link_end_of f i) i.1 w here) (inr (refl, lt)))))

all_rise : (configs : List Config) → RisesBy IsWireNotBehind (flat_map wires_at (enumerate_from 0 configs))
all_rise configs =
    rising_flat (λ (a b : ℕ × Config). a.0 < b.0) IsWireNotBehind wires_at (enumerate_from 0 configs) (rising_numbers 0 configs) wires_rise_at
    (λ f g w v lt here there. inl (inl (subst (λ n. w.end.file < n) (file_from g v there) (subst (λ n. n < g.0) (file_from f w here) lt))))

-- ---- each once

-- of an earlier interface, or of the same and to another port
abbrev IsWireBefore : PeerWire → PeerWire → Type 0
IsWireBefore w v = IsAhead w.end v.end ⊎ ((w.end ≡ v.end) × (w.peer ≡ v.peer → ⊥))

abbrev key : PeerWire → ℕ × ℕ × ℕ
key w = wire_key w.end w.peer

distinct_among : (ws : List PeerWire) (v : PeerWire) → Contains (distinct ws) v → Contains ws v
distinct_among [] v at = at
distinct_among (w ∷ ws) v at = elim (in_cases w (filter (λ x. not (same_wire (key w) (key x))) (distinct ws)) v at) [
  | inl same ↦ subst (Contains (w ∷ ws)) same (head_in w ws)
  | inr later ↦ later_in w ws v (distinct_among ws v (filter_from (λ x. not (same_wire (key w) (key x))) (distinct ws) v later).0)
]

same_key : (k : ℕ × ℕ × ℕ) → same_wire k k ≡ true
same_key k = grind arith

not_same : (k q : ℕ × ℕ × ℕ) → not (same_wire k q) ≡ true → k ≡ q → ⊥
not_same k q other is = let no : false ≡ true = ap not (sym (subst (λ x. same_wire k x ≡ true) is (same_key k))) ∙ other in search rules

wire_before : (w v : PeerWire) → IsWireNotBehind w v → not (same_wire (key w) (key v)) ≡ true → IsWireBefore w v
wire_before w v (inl ahead) other = inl ahead
wire_before w v (inr same) other =
    inr (same, (λ one. not_same (key w) (key v) other (ap (λ (e : LinkEnd). wire_key e w.peer) same ∙ ap (λ p. wire_key v.end p) one)))

distinct_rises : (ws : List PeerWire) → RisesBy IsWireNotBehind ws → RisesBy IsWireBefore (distinct ws)
distinct_rises [] up = tt
distinct_rises (w ∷ ws) up =
    let other = λ (x : PeerWire). not (same_wire (key w) (key x)) in (
      (λ v at. let (among, apart) = filter_from other (distinct ws) v at in wire_before w v (up.0 v (distinct_among ws v among)) apart),
      rising_filter IsWireBefore other (distinct ws) (distinct_rises ws up.1),
    )

wires_rise : (configs : List Config) → RisesBy IsWireBefore (wires_of configs)
wires_rise configs = distinct_rises (flat_map wires_at (enumerate_from 0 configs)) (all_rise configs)

-- ---- what a finding says of its wire

-- the port that the wire of a finding leads to
abbrev peer_of : Finding → ℕ
peer_of f = elim f.fault [ fault.UnknownPeer peer ↦ peer | _ ↦ port_of f.other ]

abbrev made : AreaFault → LinkEnd → LinkEnd → Finding
made x d e = record { fault = x; other = d; here = e }

to_peer : (ends : List LinkEnd) (p : ℕ) (d : LinkEnd) → first_at_port ends p ≡ Some d → port_of d ≡ p
to_peer ends p d at = let (among, same) = found_from (λ e. port_of e == p) ends d at in grind (arith, same)

-- here it is, and there
abbrev IsOf : PeerWire → Finding → Type 0
IsOf w f = (w.end ≡ f.here) × (peer_of f ≡ w.peer)

of_fault : (w : PeerWire) (d : LinkEnd) (a b : Bool) (x : AreaFault) → port_of d ≡ w.peer → chosen a b ≡ Some x → IsOf w (made x d w.end)
of_fault w d a b x at is = elim (by_choice a b x is) [
  | inl p ↦ subst (λ y. IsOf w (made y d w.end)) p.1 (refl, at)
  | inr p ↦ subst (λ y. IsOf w (made y d w.end)) p.2 (refl, at)
]

of_some : (w : PeerWire) (f : Finding) (d : LinkEnd) (a b : Bool) (o : Option AreaFault) → port_of d ≡ w.peer → chosen a b ≡ o
    → option_map (λ x. made x d w.end) o ≡ Some f → IsOf w f
of_some w f d a b None at is gives = absurd (none_is_some f gives)
of_some w f d a b (Some x) at is gives = subst (IsOf w) (same_Some (made x d w.end) f gives) (of_fault w d a b x at is)

of_port : (ends : List LinkEnd) (wires : List PeerWire) (w : PeerWire) (f : Finding) (o : Option LinkEnd) → first_at_port ends w.peer ≡ o
    → fault_behind (is_wired wires) w o ≡ Some f → IsOf w f
of_port ends wires w f None at is = subst (IsOf w) (same_Some (made (fault.UnknownPeer w.peer) w.end w.end) f is) (refl, refl)
of_port ends wires w f (Some d) at is =
    let back = is_wired wires (wire_key d (port_of w.end)) in
    of_some w f d (is_beside d w.end) back (chosen (is_beside d w.end) back) (to_peer ends w.peer d at) refl is

finding_before : (w v : PeerWire) (f g : Finding) → IsOf w f → IsOf v g → IsWireBefore w v → IsWireFindingBefore f g
finding_before w v f g of_f of_g (inl ahead) = inl (subst (λ e. IsAhead f.here e) of_g.0 (subst (λ e. IsAhead e v.end) of_f.0 ahead))
finding_before w v f g of_f of_g (inr (same, other)) = inr (sym of_f.0 ∙ same ∙ of_g.0, (λ one. other (sym of_f.1 ∙ ap peer_of one ∙ of_g.1)))

pub wire_faults_rise : (configs : List Config) → RisesBy IsWireFindingBefore (wire_faults_in (ends_of configs) (wires_of configs))
wire_faults_rise configs =
    let ends = ends_of configs in
    let wires = wires_of configs in
    rising_some IsWireBefore IsWireFindingBefore (wire_fault (first_at_port ends) (is_wired wires)) wires (wires_rise configs)
    (λ w v f g r is_f is_g.
    finding_before w v f g (of_port ends wires w f (first_at_port ends w.peer) refl is_f) (of_port ends wires v g (first_at_port ends v.peer) refl is_g) r)

-- ---- one more

or_false : (a : Bool) → (a || false) ≡ a
or_false true = refl
or_false false = refl

or_true : (a : Bool) → (a || true) ≡ true
or_true true = refl
or_true false = refl

not_not : (a : Bool) → not (not a) ≡ a
not_not true = refl
not_not false = refl

no_clash : false ≡ true → ⊥
no_clash e = search rules

kept_one : (w : PeerWire) (x c : Bool) → not x ≡ c → cond x (w ∷ []) [] ≡ (if c || false then [] else w ∷ [])
kept_one w true true is = absurd (no_clash is)
kept_one w true false is = refl
kept_one w false true is = refl
kept_one w false false is = absurd (no_clash (sym is))

filter_one : (p : PeerWire → Bool) (w : PeerWire) (b c : Bool) → not (p w) ≡ c → filter p (if b then [] else w ∷ []) ≡ (if c || b then [] else w ∷ [])
filter_one p w true c is = ap (λ (x : Bool). if x then [] else w ∷ []) (sym (or_true c))
filter_one p w false c is = kept_one w (p w) c is

pub distinct_more : (ws : List PeerWire) (w : PeerWire) → distinct (ws ++ w ∷ []) ≡ distinct ws ++ (if is_wired ws (key w) then [] else w ∷ [])
distinct_more [] w = refl
distinct_more (v ∷ ws) w =
    let other = λ (x : PeerWire). not (same_wire (key v) (key x)) in
    ap (λ xs. v ∷ filter other xs) (distinct_more ws w)
    ∙ ap (λ xs. v ∷ xs) (filter-append other (distinct ws) (if is_wired ws (key w) then [] else w ∷ []))
    ∙ ap (λ xs. v ∷ (filter other (distinct ws) ++ xs)) (filter_one other w (is_wired ws (key w)) (same_wire (key v) (key w)) (not_not (same_wire (key v) (key w))))

pub wired_more : (ws : List PeerWire) (w : PeerWire) (q : ℕ × ℕ × ℕ) → is_wired (ws ++ w ∷ []) q ≡ (is_wired ws q || same_wire (key w) q)
wired_more ws w q = list_any-append (λ v. same_wire (wire_key v.end v.peer) q) ws (w ∷ []) ∙ ap (λ b. is_wired ws q || b) (or_false (same_wire (key w) q))
