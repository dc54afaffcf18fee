-- What follows of masks that differ, of a third end, of a network without an elector and of a slow interface.
use Rattle.std.proofs.Common.{◌≡◌, ◌==◌, ◌&&◌, ◌<◌, ◌≤◌, ℕ, zero, suc, Bool, true, false, not, is_some, nat_lt, List, [], ◌∷◌, length, map, filter, Option, None, Some, if◌then◌else◌, inl, inr, refl, sym, ap, subst, ◌∙◌, arith}
use Rattle.std.specs.Prelude.{MatchBool}
use Rattle.std.proofs.lemmas.Option.{none-some}
use Rattle.std.specs.List.{AllByRecursion, Contains, find}
use Rattle.std.specs.Option.{option_or}
use Rattle.ospf_base.specs.Addresses.{nowhere}
use Rattle.ospf_base.specs.declared.ids.Addr.{Addr}
use Rattle.ospf_base.specs.declared.ids.RouterId.{RouterId}
use Rattle.ospf_base.specs.declared.interface.InterfaceKind.{InterfaceKind}
use Rattle.ospf_base.specs.declared.interface.InterfaceKind.TheVariants.{PointToPoint, Broadcast}
use Rattle.ospf_base.proofs.PrefixLaws.{mask_injective}
use Rattle.ospf_config.specs.declared.address.InterfaceAddress.{InterfaceAddress}
use Rattle.ospf_config.specs.declared.config.Config.{Config}
use Rattle.ospf_packet.specs.Meaning.{BodyMeaning}
use Rattle.ospf_neighbour.specs.Interface.Election.{IsBackup, IsDr, IsElected, IsElectionRound, IsEligible, changes_role, declaring}
use Rattle.ospf_neighbour.specs.Interface.Machine.{is_down, own_candidate}
use Rattle.ospf_neighbour.specs.declared.iface.candidate.Candidate.{Candidate}
use Rattle.ospf_neighbour.specs.declared.iface.candidate.Elected.{Elected}
use Rattle.ospf_neighbour.specs.declared.iface.machine.Iface.{Iface}
use Rattle.ospf_neighbour.specs.Machine.{is_two_way}
use Rattle.ospf_neighbour.specs.Neighbour.{NeighbourValue, is_empty}
use Rattle.ospf_neighbour.specs.Neighbours.{max_neighbours, neighbour_of}
use Rattle.ospf_adjacency.specs.Adjacency.{is_broadcast}
use Rattle.ospf_adjacency.specs.Elections.{candidates_of}
use Rattle.ospf_router.specs.AreaStep.Receipt.{drop_by_body, drop_of_hello, is_destination, sender_in}
use Rattle.ospf_router.specs.declared.step.dropped.Dropped.TheVariants as dropped
use Rattle.ospf_plan.specs.declared.ends.LinkEnd.{LinkEnd}
use Rattle.ospf_plan.specs.declared.fault.AreaFault.TheVariants as fault
use Rattle.ospf_plan.specs.declared.finding.Finding.{Finding}
use Rattle.ospf_plan.specs.Drops.{DropsHellos}
use Rattle.ospf_plan.specs.Ends.{can_be_elected, ends_of, first_around, first_on, is_found, network_key, network_under, same_network}
use Rattle.ospf_plan.specs.Findings.{around_of, found_in, is_wrong, other_of, same_kind}
use Rattle.ospf_plan.specs.Further.{ElectsNobody, TakesNoSecond}
use Rattle.ospf_plan.specs.Laws.{RefusesHellos}
use Rattle.ospf_plan.specs.Started.{StepsDropHellos}
use Rattle.ospf_plan.proofs.DropLemmas.{arrived, brought, drops_hellos, off}
use Rattle.ospf_plan.proofs.FindingLemmas.{told_holds}
use Rattle.ospf_plan.proofs.Members.{filter_from, filter_to, finds, found_from, in_cases, none_in_nil}
use Rattle.ospf_plan.proofs.Order.{map_from}
use Rattle.ospf_plan.proofs.StartedLemmas.{steps_drop_hellos}

not_both : true ≡ false → ⊥
not_both e = cc

left : (a b : Bool) → (a && b) ≡ true → a ≡ true
left true b is = refl
left false b is = absurd (not_both (sym is))

right : (a b : Bool) → (a && b) ≡ true → b ≡ true
right true b is = is
right false b is = absurd (not_both (sym is))

never_and : (a : Bool) → (a && false) ≡ false
never_and true = refl
never_and false = refl

one_number : (x y : ℕ) → (x == y) ≡ true → x ≡ y
one_number x y h = grind (arith, h)

unequal : (x y : ℕ) → (x ≡ y → ⊥) → (x == y) ≡ false
unequal x y ne = grind (arith, ne)

-- ---- masks

-- what is found around an address is there, and has fewer bits
record IsAround (ends : List LinkEnd) (n : ℕ) (d : LinkEnd) : Type 0 where
  among : Contains ends d
  shorter : d.address.length < n

around : (ends : List LinkEnd) (a : InterfaceAddress) (n : ℕ) (d : LinkEnd) → first_around ends a n ≡ Some d → IsAround ends n d
around ends a zero d is = absurd (none-some d is)
around ends a (suc n) d is = by_first (around ends a n d) (first_around ends a n) refl is
  where
    by_first : (first_around ends a n ≡ Some d → IsAround ends n d) → (o : Option LinkEnd) → first_around ends a n ≡ o → option_or o (first_on ends (network_under a n)) ≡ Some d → IsAround ends (suc n) d
    by_first rest None at is =
        let (among, on) = found_from (λ x. same_network (network_key x.address) (network_under a n)) ends d is in
        let bits : d.address.length ≡ n = one_number d.address.length n (left (d.address.length == n) _ on) in
        record { among = among; shorter = omega (arith, bits) }
    by_first rest (Some x) at is = let there = rest (at ∙ is) in record { among = there.among; shorter = (let less = there.shorter in omega (arith, less)) }

short : (e : LinkEnd) → e.address.length ≤ 32
short e = let most = e.address.host.short in omega (arith, most)

refuses_mask : (e d : LinkEnd) → e.kind ≡ Broadcast → (d.address.length ≡ e.address.length → ⊥) → RefusesHellos e d
refuses_mask e d kind ne i j of_i of_j =
    let broadcast : i.settings.kind ≡ Broadcast = of_i.kind ∙ kind in
    let differ : (j.settings.mask == i.settings.mask) ≡ false =
    unequal j.settings.mask i.settings.mask (λ same. ne (mask_injective d.address.length e.address.length (short d) (short e) (sym of_j.mask ∙ (same ∙ of_i.mask)))) in
    rw (differ, broadcast) (never_and _)

-- the other interface is around this one, and each refuses the other's Hellos where it is a broadcast one
record MasksDiffer (ends : List LinkEnd) (f : Finding) : Type 0 where
  here : Contains ends f.here
  other : Contains ends f.other
  at_here : f.here.kind ≡ Broadcast → RefusesHellos f.here f.other
  at_other : f.other.kind ≡ Broadcast → RefusesHellos f.other f.here

masks_differ : (ends : List LinkEnd) (f : Finding) → Contains (found_in ends) f → f.fault ≡ fault.Mask → MasksDiffer ends f
masks_differ ends f found is =
    let holds = told_holds ends f found in
    let wider : first_around ends f.here.address f.here.address.length ≡ Some f.other = subst (λ w. other_of w (around_of ends f.here) ≡ Some f.other) is holds.other in
    let it = around ends f.here.address f.here.address.length f.other wider in
    let less : f.other.address.length < f.here.address.length = it.shorter in
    record {
      here = holds.here;
      other = it.among;
      at_here = λ kind. refuses_mask f.here f.other kind (λ same. omega (arith, less, same));
      at_other = λ kind. refuses_mask f.other f.here kind (λ same. omega (arith, less, same));
    }

pub found_mask : (ends : List LinkEnd) (f : Finding) → Contains (found_in ends) f → f.fault ≡ fault.Mask
    → (f.here.kind ≡ Broadcast → DropsHellos f.here f.other) × (f.other.kind ≡ Broadcast → DropsHellos f.other f.here)
found_mask ends f found is =
    let it = masks_differ ends f found is in
    ((λ kind. drops_hellos f.here f.other (it.at_here kind)), (λ kind. drops_hellos f.other f.here (it.at_other kind)))

pub found_mask_steps : (configs : List Config) (f : Finding) → Contains (found_in (ends_of configs)) f → f.fault ≡ fault.Mask
    → (f.here.kind ≡ Broadcast → StepsDropHellos configs f.here f.other) × (f.other.kind ≡ Broadcast → StepsDropHellos configs f.other f.here)
found_mask_steps configs f found is =
    let it = masks_differ (ends_of configs) f found is in
    ((λ kind. steps_drop_hellos configs f.here f.other it.here (it.at_here kind)), (λ kind. steps_drop_hellos configs f.other f.here it.other (it.at_other kind)))

-- ---- a third end

not_empty : (ns : List NeighbourValue) (n : NeighbourValue) → Contains ns n → is_empty ns ≡ false
not_empty [] n at = absurd (none_in_nil n at)
not_empty (x ∷ xs) n at = refl

module _ (i : Iface) (ns : List NeighbourValue) (q : RouterId) (source : Addr) (p2p : is_broadcast i ≡ false) where
  no_sender : neighbour_of ns q ≡ None → sender_in i ns q source ≡ None
  no_sender none = ap (λ (b : Bool). if b then find (λ (n : NeighbourValue). n.address.0 == source.0) ns else neighbour_of ns q) p2p ∙ none

  no_room : (n : NeighbourValue) → Contains ns n → drop_of_hello i ns q None ≡ Some dropped.WrongRouter
  no_room n at =
      ap (λ (b : Bool). if (if b then is_some (neighbour_of ns q) else not (is_empty ns)) then Some dropped.WrongRouter else (if nat_lt (length ns) max_neighbours then None else Some dropped.State)) p2p
      ∙ ap (λ (b : Bool). if not b then Some dropped.WrongRouter else (if nat_lt (length ns) max_neighbours then None else Some dropped.State)) (not_empty ns n at)

pub takes_no_second : (d e : LinkEnd) → e.kind ≡ PointToPoint → TakesNoSecond e d
takes_no_second d e kind local area i j ns source destination m heard n at of_j is here agree has none =
    let p2p : is_broadcast i ≡ false = ap (λ (k : InterfaceKind). elim k [ PointToPoint ↦ false | Broadcast ↦ true ]) (at.iface.kind ∙ kind) in
    let body : brought local i ns source m ≡ Some dropped.WrongRouter =
    ap (λ (b : BodyMeaning). drop_by_body local b i ns m.router (sender_in i ns m.router source)) is
    ∙ (ap (λ (b : Bool). if b then drop_of_hello i ns m.router (sender_in i ns m.router source) else Some dropped.HelloMismatch) agree
    ∙ (ap (λ (o : Option NeighbourValue). drop_of_hello i ns m.router o) (no_sender i ns m.router source p2p none)
    ∙ no_room i ns m.router source p2p n has)) in
    arrived (is_down i.state) (m.area.0 == area.0) (m.router.0 == i.settings.router.0) (is_destination i destination) (off i source) (brought local i ns source m)
    here.up here.area here.other here.destination here.network
    ∙ body

-- ---- elections

abbrev AllZero : List Candidate → Type 0
AllZero cs = (c : Candidate) → Contains cs c → c.priority ≡ 0

module _ (cs : List Candidate) (zeros : AllZero cs) where
  none_is : (c : Candidate) → Contains cs c → IsEligible c → ⊥
  none_is c at eligible = let is : c.priority ≡ 0 = zeros c at in omega (arith, is, eligible)

  no_backup : (a : Addr) → IsBackup cs a → a ≡ nowhere
  no_backup a (IsBackup.Declared c best is) = absurd (none_is c best.member best.belongs.0)
  no_backup a (IsBackup.Ranked c none best is) = absurd (none_is c best.member best.belongs.0)
  no_backup a (IsBackup.Nobody none is) = is

  no_dr : (b a : Addr) → b ≡ nowhere → IsDr cs b a → a ≡ nowhere
  no_dr b a nobody (IsDr.Declared c best is) = absurd (none_is c best.member best.belongs.0)
  no_dr b a nobody (IsDr.Promoted none is) = is ∙ nobody

  round_nobody : (e : Elected) → IsElectionRound cs e → (e.dr ≡ nowhere) × (e.backup ≡ nowhere)
  round_nobody e round = let nobody = no_backup e.backup round.backup in (no_dr e.backup e.dr nobody round.dr, nobody)

declared_priority : (me : RouterId) (first : Elected) (c : Candidate) → (declaring me first c).priority ≡ c.priority
declared_priority me first c = by_test (c.id.0 == me.0)
  where
    by_test : (b : Bool) → (if b then record c { dr = first.dr; backup = first.backup } else c).priority ≡ c.priority
    by_test true = refl
    by_test false = refl

declared_zeros : (me : RouterId) (first : Elected) (cs : List Candidate) → AllZero cs → AllZero (map (declaring me first) cs)
declared_zeros me first cs zeros c at =
    let (x, among, is) = map_from (declaring me first) cs c at in
    ap (λ (y : Candidate). y.priority) (sym is) ∙ (declared_priority me first x ∙ zeros x among)

elected_nobody : (cs : List Candidate) (me : RouterId) (e : Elected) → AllZero cs → IsElected cs me e → (e.dr ≡ nowhere) × (e.backup ≡ nowhere)
elected_nobody cs me e zeros is = by_role (changes_role is.own is.first) is.again
  where
    by_role : (b : Bool) → MatchBool b (IsElectionRound (map (declaring me is.first) cs) e) (e ≡ is.first) → (e.dr ≡ nowhere) × (e.backup ≡ nowhere)
    by_role true again = round_nobody (map (declaring me is.first) cs) (declared_zeros me is.first cs zeros) e again
    by_role false same = let nobody = round_nobody cs zeros is.first is.round in (ap (λ (x : Elected). x.dr) same ∙ nobody.0, ap (λ (x : Elected). x.backup) same ∙ nobody.1)

all_in : {X : Type 0} (P : X → Type 0) (xs : List X) (x : X) → AllByRecursion P xs → Contains xs x → P x
all_in P [] x all at = absurd (none_in_nil x at)
all_in P (y ∷ ys) x all at = elim (in_cases y ys x at) [ inl same ↦ subst P same all.0 | inr later ↦ all_in P ys x all.1 later ]

candidates_zero : (i : Iface) (ns : List NeighbourValue) → i.settings.priority ≡ 0 → AllByRecursion (λ (n : NeighbourValue). n.declared.priority ≡ 0) ns → AllZero (candidates_of i ns)
candidates_zero i ns own others c at =
    let candidate : NeighbourValue → Candidate = λ n. record { id = n.router; address = n.address; priority = n.declared.priority; dr = n.declared.dr; backup = n.declared.backup } in
    let hears : List NeighbourValue = filter (λ (n : NeighbourValue). is_two_way n.state) ns in
    elim (in_cases (own_candidate i) (map candidate hears) c at) [
      | inl same ↦ ap (λ (x : Candidate). x.priority) (sym same) ∙ own
      | inr later ↦
          (let (n, among, is) = map_from candidate hears c later in
          ap (λ (x : Candidate). x.priority) (sym is) ∙ all_in (λ (x : NeighbourValue). x.declared.priority ≡ 0) ns n others (filter_from (λ (x : NeighbourValue). is_two_way x.state) ns n among).0)
    ]

elects_nobody : (e : LinkEnd) → e.priority ≡ 0 → ElectsNobody e
elects_nobody e zero_is i ns result own others is = elected_nobody (candidates_of i ns) i.settings.router result (candidates_zero i ns (own ∙ zero_is) others) is

no_priority : (p : ℕ) → nat_lt 0 p ≡ false → p ≡ 0
no_priority p is = grind (arith, is)

none_found : (o : Option LinkEnd) (x : LinkEnd) → not (is_some o) ≡ true → o ≡ Some x → ⊥
none_found None x none some = none-some x some
none_found (Some y) x none some = not_both (sym none)

itself : (k : ℕ × ℕ) → same_network k k ≡ true
itself k = grind arith

pub found_nobody : (ends : List LinkEnd) (f : Finding) (e : LinkEnd) → Contains (found_in ends) f → f.fault ≡ fault.NoDr → Contains ends e → network_key e.address ≡ network_key f.here.address
    → (e.priority ≡ 0) × ElectsNobody e
found_nobody ends f e found is at on =
    let holds = told_holds ends f found in
    let q = network_key f.here.address in
    let electors : List LinkEnd = filter can_be_elected ends in
    let wrong : is_wrong fault.NoDr (around_of ends f.here) f.other f.here ≡ true = subst (λ w. is_wrong w (around_of ends f.here) f.other f.here ≡ true) is holds.wrong in
    let none : not (is_some (first_on electors q)) ≡ true = right (is_found (first_on ends q) f.here && same_kind f.here.kind Broadcast) (not (is_some (first_on electors q))) wrong in
    let zero_is = by_test none (can_be_elected e) refl in
    (zero_is, elects_nobody e zero_is)
  where
    by_test : not (is_some (first_on (filter can_be_elected ends) (network_key f.here.address))) ≡ true → (b : Bool) → can_be_elected e ≡ b → e.priority ≡ 0
    by_test none false is_none = no_priority e.priority is_none
    by_test none true can =
        let there = network_key f.here.address in
        let (x, first) = finds (λ y. same_network (network_key y.address) there) (filter can_be_elected ends) e (filter_to can_be_elected ends e at can) (subst (λ k. same_network k there ≡ true) (sym on) (itself there)) in
        absurd (none_found (first_on (filter can_be_elected ends) there) x none first)
