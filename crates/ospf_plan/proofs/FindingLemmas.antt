-- What a finding says.
use Rattle.std.proofs.Common.{rules, ◌≡◌, ◌==◌, ℕ, Bool, true, false, not, List, ◌∙◌, ap, sym, subst, refl, inl, inr, arith, Option, Some, None, option_and_then, if◌then◌else◌}
use Rattle.std.proofs.lemmas.Option.{same_Some}
use Rattle.std.specs.List.{Contains}
use Rattle.ospf_base.specs.Constants.{router_options}
use Rattle.ospf_base.specs.Masks.{mask_of}
use Rattle.ospf_neighbour.specs.Interface.Hello.{agrees, own_hello}
use Rattle.ospf_neighbour.specs.declared.iface.machine.Iface.{Iface}
use Rattle.ospf_packet.specs.declared.body.Hello.{Hello}
use Rattle.ospf_plan.specs.declared.ends.LinkEnd.{LinkEnd}
use Rattle.ospf_plan.specs.declared.fault.AreaFault.{AreaFault}
use Rattle.ospf_plan.specs.declared.fault.AreaFault.TheVariants as fault
use Rattle.ospf_plan.specs.declared.finding.Finding.{Finding}
use Rattle.ospf_plan.specs.declared.finding.Surroundings.{Surroundings}
use Rattle.ospf_plan.specs.Ends.{first_on, network_key, same_network}
use Rattle.ospf_plan.specs.Findings.{around_of, every_fault, found, found_at, found_in, is_wrong, other_of}
use Rattle.ospf_plan.specs.Laws.{FindingHolds, IsOfHellos, NoneTold, RefusesHellos, TakesHellos}
use Rattle.ospf_plan.proofs.Members.{finds, flat_from, flat_to, some_from, some_to}

never : false ≡ true → ⊥
never e = search rules

all_told : (a : Surroundings) (d e : LinkEnd) (f : AreaFault) → is_wrong f a d e ≡ true → Contains every_fault f
all_told a d e fault.SameRouter wrong = (0, omega arith, refl)
all_told a d e fault.SameAddress wrong = (1, omega arith, refl)
all_told a d e fault.Area wrong = (2, omega arith, refl)
all_told a d e fault.Kind wrong = (3, omega arith, refl)
all_told a d e fault.Hello wrong = (4, omega arith, refl)
all_told a d e fault.Dead wrong = (5, omega arith, refl)
all_told a d e fault.Mtu wrong = (6, omega arith, refl)
all_told a d e fault.Mask wrong = (7, omega arith, refl)
all_told a d e fault.TooManyRouters wrong = (8, omega arith, refl)
all_told a d e fault.NoDr wrong = (9, omega arith, refl)
all_told a d e fault.OneSided wrong = absurd (never wrong)
all_told a d e fault.Cost wrong = (10, omega arith, refl)
all_told a d e fault.NoNeighbor wrong = (11, omega arith, refl)
all_told a d e fault.Delay wrong = (12, omega arith, refl)
all_told a d e fault.SamePort wrong = (13, omega arith, refl)
all_told a d e fault.WrongSubnetPeer wrong = absurd (never wrong)
all_told a d e (fault.UnknownPeer peer) wrong = absurd (never wrong)
all_told a d e fault.Partitioned wrong = absurd (never wrong)
all_told a d e fault.Unheard wrong = absurd (never wrong)
all_told a d e fault.LoneDr wrong = (14, omega arith, refl)

-- ---- the finding of a fault at an interface

-- what the finding g of the fault f at the interface e says
pub record Says (a : Surroundings) (e : LinkEnd) (f : AreaFault) (g : Finding) : Type 0 where
  pub fault_is : g.fault ≡ f
  pub here_is : g.here ≡ e
  pub other_is : other_of f a ≡ Some g.other
  pub wrong_is : is_wrong f a g.other e ≡ true

pub none_is_some : {X : Type 0} (x : X) → None ≡ Some x → ⊥
none_is_some x e = search rules

made : AreaFault → LinkEnd → LinkEnd → Finding
made f e d = record { fault = f; other = d; here = e }

said_by : (a : Surroundings) (e : LinkEnd) (f : AreaFault) (g : Finding) (d : LinkEnd) (b : Bool) → other_of f a ≡ Some d → is_wrong f a d e ≡ b
    → (if b then Some (record { fault = f; other = d; here = e }) else None) ≡ Some g → Says a e f g
said_by a e f g d false at wrong is = absurd (none_is_some g is)
said_by a e f g d true at wrong is =
    subst (λ x. Says a e f x) (same_Some (record { fault = f; other = d; here = e }) g is) (record { fault_is = refl; here_is = refl; other_is = at; wrong_is = wrong })

said_at : (a : Surroundings) (e : LinkEnd) (f : AreaFault) (g : Finding) (o : Option LinkEnd) → other_of f a ≡ o
    → option_and_then (λ d. if is_wrong f a d e then Some (record { fault = f; other = d; here = e }) else None) o ≡ Some g → Says a e f g
said_at a e f g None at is = absurd (none_is_some g is)
said_at a e f g (Some d) at is = said_by a e f g d (is_wrong f a d e) at refl is

pub says : (a : Surroundings) (e : LinkEnd) (f : AreaFault) (g : Finding) → found a e f ≡ Some g → Says a e f g
says a e f g is = said_at a e f g (other_of f a) refl is

finds_it : (a : Surroundings) (e : LinkEnd) (f : AreaFault) (d : LinkEnd) → other_of f a ≡ Some d → is_wrong f a d e ≡ true → found a e f ≡ Some (record { fault = f; other = d; here = e })
finds_it a e f d at wrong =
    ap (λ o. option_and_then (λ x. if is_wrong f a x e then Some (record { fault = f; other = x; here = e }) else None) o) at
    ∙ ap (λ b. if b then Some (record { fault = f; other = d; here = e }) else None) wrong

-- ---- what is told is what holds

holds_by : (ends : List LinkEnd) (e : LinkEnd) (w : AreaFault) (f : Finding) → Contains ends e → Says (around_of ends e) e w f → FindingHolds ends f
holds_by ends e w f at s =
    let other : other_of f.fault (around_of ends f.here) ≡ Some f.other =
    ap (λ x. other_of f.fault (around_of ends x)) s.here_is ∙ ap (λ x. other_of x (around_of ends e)) s.fault_is ∙ s.other_is in
    let wrong : is_wrong f.fault (around_of ends f.here) f.other f.here ≡ true =
    ap (λ x. is_wrong f.fault (around_of ends x) f.other x) s.here_is ∙ ap (λ x. is_wrong x (around_of ends e) f.other e) s.fault_is ∙ s.wrong_is in
    record { here = subst (λ x. Contains ends x) (sym s.here_is) at; other = other; wrong = wrong }

pub told_holds : (ends : List LinkEnd) (f : Finding) → Contains (found_in ends) f → FindingHolds ends f
told_holds ends f told =
    let (e, at, some) = flat_from (found_at ends) ends f told in
    let (w, among, is) = some_from (found (around_of ends e) e) every_fault f some in
    holds_by ends e w f at (says (around_of ends e) e w f is)

pub held_told : (ends : List LinkEnd) (f : Finding) → FindingHolds ends f → Contains (found_in ends) f
held_told ends f h =
    let is : found (around_of ends f.here) f.here f.fault ≡ Some f = finds_it (around_of ends f.here) f.here f.fault f.other h.other h.wrong in
    flat_to (found_at ends) ends f f.here h.here (some_to (found (around_of ends f.here) f.here) every_fault f f.fault (all_told (around_of ends f.here) f.other f.here f.fault h.wrong) is)

-- ---- Hellos

apart : (x y : ℕ) → not (x == y) ≡ true → x ≡ y → ⊥
apart x y ne is = grind (arith, ne, is)

one_by : (x y : ℕ) → (not (x == y) ≡ true → ⊥) → x ≡ y
one_by x y h = grind (arith, h)

other : (x y : ℕ) → (x ≡ y → ⊥) → (x == y) ≡ false
other x y ne = grind (arith, ne)

no_interval : (i : Iface) (h : Hello) → (h.hello_interval ≡ i.settings.hello → ⊥) → agrees i h ≡ false
no_interval i h ne = rw (other h.hello_interval i.settings.hello ne) refl

no_dead : (i : Iface) (h : Hello) (b : Bool) → (h.hello_interval == i.settings.hello) ≡ b → (h.dead_interval ≡ i.settings.dead → ⊥) → agrees i h ≡ false
no_dead i h true is ne = rw (is, other h.dead_interval i.settings.dead ne) refl
no_dead i h false is ne = rw is refl

refuses_by_hello : (e d : LinkEnd) → (e.hello ≡ d.hello → ⊥) → RefusesHellos e d
refuses_by_hello e d ne i j of_i of_j = no_interval i (own_hello j) (λ same. ne (sym of_i.hello ∙ sym same ∙ of_j.hello))

refuses_by_dead : (e d : LinkEnd) → (e.dead ≡ d.dead → ⊥) → RefusesHellos e d
refuses_by_dead e d ne i j of_i of_j = no_dead i (own_hello j) (j.settings.hello == i.settings.hello) refl (λ same. ne (sym of_i.dead ∙ sym same ∙ of_j.dead))

pub told_refuse : (ends : List LinkEnd) (f : Finding) → Contains (found_in ends) f → IsOfHellos f.fault → RefusesHellos f.here f.other × RefusesHellos f.other f.here
told_refuse ends f told (inl is) =
    let wrong = (told_holds ends f told).wrong in
    let ne = apart f.other.hello f.here.hello (subst (λ w. is_wrong w (around_of ends f.here) f.other f.here ≡ true) is wrong) in
    (refuses_by_hello f.here f.other (λ e. ne (sym e)), refuses_by_hello f.other f.here ne)
told_refuse ends f told (inr is) =
    let wrong = (told_holds ends f told).wrong in
    let ne = apart f.other.dead f.here.dead (subst (λ w. is_wrong w (around_of ends f.here) f.other f.here ≡ true) is wrong) in
    (refuses_by_dead f.here f.other (λ e. ne (sym e)), refuses_by_dead f.other f.here ne)

itself : (k : ℕ × ℕ) → same_network k k ≡ true
itself k = grind arith

-- the first on the network, of which the intervals of an interface there are no other where nothing is told
as_first : (ends : List LinkEnd) (e d : LinkEnd) (q : ℕ × ℕ) → Contains ends e → network_key e.address ≡ q → first_on ends q ≡ Some d → NoneTold ends q → (d.hello ≡ e.hello) × (d.dead ≡ e.dead)
as_first ends e d q at on first none =
    let at_e : first_on ends (network_key e.address) ≡ Some d = ap (λ k. first_on ends k) on ∙ first in (
      one_by d.hello e.hello (λ ne. none (record { fault = fault.Hello; other = d; here = e }) (held_told ends _ (record { here = at; other = at_e; wrong = ne })) (inl refl) on),
      one_by d.dead e.dead (λ ne. none (record { fault = fault.Dead; other = d; here = e }) (held_told ends _ (record { here = at; other = at_e; wrong = ne })) (inr refl) on),
    )

equal : (x : ℕ) → (x == x) ≡ true
equal x = grind arith

agreeing : (i : Iface) (h : Hello) → h.hello_interval ≡ i.settings.hello → h.dead_interval ≡ i.settings.dead → h.options ≡ router_options → h.mask ≡ i.settings.mask → agrees i h ≡ true
agreeing i h interval dead options mask = rw (interval, dead, options, mask, equal i.settings.hello, equal i.settings.dead, equal i.settings.mask) refl

pub others_take : (ends : List LinkEnd) (d e : LinkEnd) → Contains ends d → Contains ends e → network_key d.address ≡ network_key e.address → NoneTold ends (network_key e.address) → TakesHellos d e
others_take ends d e at_d at_e on none i j of_i of_j =
    let q = network_key e.address in
    let (first, is) = finds (λ x. same_network (network_key x.address) q) ends e at_e (itself q) in
    let of_d = as_first ends d first q at_d on is none in
    let of_e = as_first ends e first q at_e refl is none in
    let bits : d.address.length ≡ e.address.length = ap (λ (k : ℕ × ℕ). k.0) on in
    agreeing i (own_hello j) (of_j.hello ∙ sym of_e.0 ∙ of_d.0 ∙ sym of_i.hello) (of_j.dead ∙ sym of_e.1 ∙ of_d.1 ∙ sym of_i.dead)
    refl (of_j.mask ∙ ap mask_of (sym bits) ∙ sym of_i.mask)
