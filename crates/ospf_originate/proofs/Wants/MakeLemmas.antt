-- What is wanted can be made.
use Rattle.std.proofs.Common.{◌≡◌, ◌≢◌, ◌<◌, ◌≤◌, ◌+◌, ◌*◌, ◌++◌, ℕ, ℤ, zero, suc, Bool, true, false, cond, List, [], ◌∷◌, length, map, filter, Option, None, Some, ◌⊎◌, inl, inr, refl, subst, arith, if◌then◌else◌}
use Rattle.std.specs.List.{AllByRecursion, All, flat_map}
use Rattle.std.proofs.lemmas.List.{length-append, length-map}
use Rattle.std.proofs.lemmas.Int.{ints}
use Rattle.std.proofs.lemmas.Option.{none-some, same_Some}
use Rattle.ospf_base.specs.Keys.{same_key}
use Rattle.ospf_base.specs.Masks.{IsMask}
use Rattle.ospf_base.specs.declared.ids.LsaKey.{LsaKey}
use Rattle.ospf_base.specs.declared.ids.RouterId.{RouterId}
use Rattle.ospf_base.specs.declared.interface.InterfaceKind.{InterfaceKind}
use Rattle.ospf_base.specs.declared.interface.InterfaceKind.TheVariants as kind
use Rattle.ospf_base.specs.declared.stub_network.StubNetwork.{StubNetwork}
use Rattle.ospf_lsa.specs.Lsa.{HasMask, HasCost}
use Rattle.ospf_lsa.specs.Value.{HasAll, IsUnmade, RouterNeeds, NetworkNeeds, unused_number}
use Rattle.ospf_lsa.specs.declared.fault.LsaFault.{LsaFault}
use Rattle.ospf_lsa.specs.declared.fault.LsaFault.TheVariants as fault
use Rattle.ospf_lsa.specs.declared.link.Link.{Link}
use Rattle.ospf_lsa.specs.declared.link.LinkKind.TheVariants.{PointToPoint, Transit, Stub}
use Rattle.ospf_lsdb.proofs.MapLemmas.{bool_cases}
use Rattle.ospf_neighbour.specs.Neighbour.{NeighbourValue}
use Rattle.ospf_area.specs.State.{LinkValue}
use Rattle.ospf_originate.specs.Wants.Made.{CanBeMade, CanBeMadeIf, IsUnmadeIf, Needs, first_number}
use Rattle.ospf_originate.specs.Wants.SetUp.{AreSetUp, IsSetUp, max_stubs}
use Rattle.ospf_neighbour.specs.Interface.Machine.{is_down}
use Rattle.ospf_originate.specs.Wants.Wanted.{advertised_mask, attached_routers, stub_link, is_full, is_transit, router_link, network_link, subnet_link, subnets_of, links_of_link, network_of, wanted_lsas, wanted_key, wanted_of, WantedValue}
use Rattle.ospf_originate.proofs.Wants.Words.{broadcast_link, is_full_before, is_full_behind, links_of_kind, through_metric}
use Rattle.ospf_originate.proofs.Wants.WantedLemmas.{map_all, all_networks}

-- ---- lists

all_of : {X : Type 0} → (P : X → Type 0) (xs : List X) → AllByRecursion P xs → All P xs
all_of P [] all k d within = absurd (omega (arith, within))
all_of P (x ∷ xs) all zero d within = all.0
all_of P (x ∷ xs) all (suc k) d within = all_of P xs all.1 k d (omega (arith, within))

both_lists : {X : Type 0} → (P : X → Type 0) (xs ys : List X) → AllByRecursion P xs → AllByRecursion P ys → AllByRecursion P (xs ++ ys)
both_lists P [] ys a b = b
both_lists P (x ∷ xs) ys a b = (a.0, both_lists P xs ys a.1 b)

mapped : {X Y : Type 0} → (P : Y → Type 0) (f : X → Y) (xs : List X) → ((x : X) → P (f x)) → AllByRecursion P (map f xs)
mapped P f [] is = tt
mapped P f (x ∷ xs) is = (is x, mapped P f xs is)

longer : {X : Type 0} → (x : X) (xs ys : List X) (b : Bool) → length xs ≤ length ys → length (cond b (x ∷ xs) xs) ≤ length (x ∷ ys)
longer x xs ys true le = omega (arith, le)
longer x xs ys false le = omega (arith, le)

few_pass : {X : Type 0} → (p : X → Bool) (xs : List X) → length (filter p xs) ≤ length xs
few_pass p [] = omega arith
few_pass p (x ∷ xs) = longer x (filter p xs) xs (p x) (few_pass p xs)

-- ---- links

IsGood : Link → Type 0
IsGood l = HasMask l × HasCost l

positive : (stub_router : Bool) (cost : ℕ) → 0 < cost → 0 < through_metric stub_router cost
positive true cost costs = omega arith
positive false cost costs = costs

router_good : (stub_router : Bool) (l : LinkValue) (n : NeighbourValue) → IsGood (router_link stub_router l n)
unfolding IsGood
router_good stub_router l n = ((λ is. let differ : PointToPoint ≡ Stub = is in absurd (cc)), λ is. positive stub_router l.settings.cost l.settings.cost_not_zero)

network_good : (stub_router : Bool) (l : LinkValue) → IsGood (network_link stub_router l)
unfolding IsGood
network_good stub_router l = ((λ is. let differ : Transit ≡ Stub = is in absurd (cc)), λ is. positive stub_router l.settings.cost l.settings.cost_not_zero)

subnet_good : (l : LinkValue) → IsSetUp l → IsGood (subnet_link l)
unfolding IsGood
subnet_good l up = ((λ is. up.mask), λ is. l.settings.cost_not_zero)

subnets_good : (l : LinkValue) → IsSetUp l → AllByRecursion IsGood (subnets_of l)
subnets_good l up = by_test l.settings.suppressed
  where
    by_test : (t : Bool) → AllByRecursion IsGood (if t then [] else subnet_link l ∷ [])
    by_test true = tt
    by_test false = (subnet_good l up, tt)

broadcast_good : (stub_router : Bool) (l : LinkValue) → IsSetUp l → IsGood (broadcast_link stub_router l)
broadcast_good stub_router l up = elim (bool_cases (is_transit l)) [
  | inl yes_transit ↦ rw yes_transit (network_good stub_router l)
  | inr only_stub ↦ rw only_stub (subnet_good l up)
]

kind_good : (k : InterfaceKind) (stub_router : Bool) (l : LinkValue) → IsSetUp l → AllByRecursion IsGood (links_of_kind k stub_router l)
kind_good kind.PointToPoint stub_router l up =
    both_lists IsGood (map (router_link stub_router l) (filter is_full l.neighbours)) (subnets_of l)
    (mapped IsGood (router_link stub_router l) (filter is_full l.neighbours) (router_good stub_router l)) (subnets_good l up)
kind_good kind.Broadcast stub_router l up = (broadcast_good stub_router l up, tt)

at_good : (stub_router : Bool) (l : LinkValue) → IsSetUp l → AllByRecursion IsGood (links_of_link stub_router l)
unfolding links_of_link
at_good stub_router l up = elim (bool_cases (is_down l.iface.state)) [
  | inl down ↦ rw down tt
  | inr going ↦ rw going (kind_good l.iface.settings.kind stub_router l up)
]

all_good : (stub_router : Bool) (links : List LinkValue) → AllByRecursion IsSetUp links → AllByRecursion IsGood (flat_map (links_of_link stub_router) links)
all_good stub_router [] up = tt
all_good stub_router (l ∷ ls) up = both_lists IsGood (links_of_link stub_router l) (flat_map (links_of_link stub_router) ls) (at_good stub_router l up.0) (all_good stub_router ls up.1)

-- ---- how many

subnets_few : (l : LinkValue) → length (subnets_of l) ≤ 1
subnets_few l = by_test l.settings.suppressed
  where
    by_test : (t : Bool) → length (if t then [] else subnet_link l ∷ []) ≤ 1
    by_test true = omega arith
    by_test false = omega arith

kind_few : (k : InterfaceKind) (stub_router : Bool) (l : LinkValue) → (k ≡ kind.PointToPoint → length l.neighbours ≤ 1) → length (links_of_kind k stub_router l) ≤ 2
kind_few kind.PointToPoint stub_router l one =
    let ends : length l.neighbours ≤ 1 = one refl in
    let full : length (filter is_full l.neighbours) ≤ length l.neighbours = few_pass is_full l.neighbours in
    let made : List Link = map (router_link stub_router l) (filter is_full l.neighbours) in
    omega (arith, full, ends, subnets_few l, length-append made (subnets_of l), length-map (filter is_full l.neighbours) (router_link stub_router l))
kind_few kind.Broadcast stub_router l one = omega arith

at_few : (stub_router : Bool) (l : LinkValue) → IsSetUp l → length (links_of_link stub_router l) ≤ 2
unfolding links_of_link
at_few stub_router l up = elim (bool_cases (is_down l.iface.state)) [
  | inl down ↦ rw down (omega arith)
  | inr going ↦ rw going (kind_few l.iface.settings.kind stub_router l up.two_ends)
]

all_few : (stub_router : Bool) (links : List LinkValue) → AllByRecursion IsSetUp links → length (flat_map (links_of_link stub_router) links) ≤ 2 * length links
all_few stub_router [] up = omega arith
all_few stub_router (l ∷ ls) up =
    let here = at_few stub_router l up.0 in let rest = all_few stub_router ls up.1 in
    omega (arith, here, rest, length-append (links_of_link stub_router l) (flat_map (links_of_link stub_router) ls))

-- ---- what is needed

router_needs : (number : ℤ) (links : List Link) → 24 + 12 * length links ≤ 16356 → AllByRecursion IsGood links → number ≢ unused_number → (f : LsaFault) → RouterNeeds number links f
unfolding IsGood
router_needs number links few good used fault.Length = few
router_needs number links few good used fault.Mask = all_of HasMask links (map_all (λ l. HasMask l × HasCost l) HasMask (λ l g. g.0) links good)
router_needs number links few good used fault.ZeroMetric = all_of HasCost links (map_all (λ l. HasMask l × HasCost l) HasCost (λ l g. g.1) links good)
router_needs number links few good used fault.Number = used
router_needs number links few good used fault.Short = tt
router_needs number links few good used fault.Sum = tt
router_needs number links few good used fault.Kind = tt
router_needs number links few good used fault.Links = tt
router_needs number links few good used fault.IdMismatch = tt
router_needs number links few good used fault.Memory = tt

network_needs : (number : ℤ) (mask : ℕ) (routers : List RouterId) → 24 + 4 * length routers ≤ 16356 → IsMask mask → number ≢ unused_number → (f : LsaFault) → NetworkNeeds number mask routers f
network_needs number mask routers few is used fault.Length = few
network_needs number mask routers few is used fault.Mask = is
network_needs number mask routers few is used fault.Number = used
network_needs number mask routers few is used fault.ZeroMetric = tt
network_needs number mask routers few is used fault.Short = tt
network_needs number mask routers few is used fault.Sum = tt
network_needs number mask routers few is used fault.Kind = tt
network_needs number mask routers few is used fault.Links = tt
network_needs number mask routers few is used fault.IdMismatch = tt
network_needs number mask routers few is used fault.Memory = tt

attached_few : (router : RouterId) (ns : List NeighbourValue) → length ns ≤ 255 → 24 + 4 * length (attached_routers router ns) ≤ 16356
attached_few router ns few =
    let before : length (filter (is_full_before router) ns) ≤ length ns = few_pass (is_full_before router) ns in
    let behind : length (filter (is_full_behind router) ns) ≤ length ns = few_pass (is_full_behind router) ns in
    omega (
      arith,
      length-append (map (λ (n : NeighbourValue). n.router) (filter (is_full_before router) ns)) (router ∷ map (λ (n : NeighbourValue). n.router) (filter (is_full_behind router) ns)),
      length-map (filter (is_full_before router) ns) (λ (n : NeighbourValue). n.router),
      length-map (filter (is_full_behind router) ns) (λ (n : NeighbourValue). n.router),
    )

-- the mask of a suppressed network has 32 ones
advertised_is_mask : (l : LinkValue) → IsSetUp l → IsMask (advertised_mask l)
advertised_is_mask l up = by_test l.settings.suppressed
  where
    by_test : (t : Bool) → IsMask (if t then 0xffffffff else l.iface.settings.mask)
    by_test true = (32, omega arith, refl)
    by_test false = up.mask

network_made : (router : RouterId) (number : ℤ) (l : LinkValue) → number ≢ unused_number → IsSetUp l → (f : LsaFault) → Needs number (network_of router l) f
unfolding network_of
network_made router number l used up f =
    network_needs number (advertised_mask l) (attached_routers router l.neighbours) (attached_few router l.neighbours up.few) (advertised_is_mask l up) used f

-- the link to a stub network has the mask of its prefix, and costs what it may
stub_good : (h : StubNetwork) → IsGood (stub_link h)
unfolding IsGood
stub_good h = ((λ is. (h.prefix.length, h.prefix.short, refl)), λ is. let none : (Stub ≡ PointToPoint) ⊎ (Stub ≡ Transit) = is in elim none [ inl e ↦ absurd (cc) | inr e ↦ absurd (cc) ])

pub wanted_made : (stub_router : Bool) (router : RouterId) (links : List LinkValue) (stubs : List StubNetwork) → AreSetUp links → length stubs ≤ max_stubs
    → AllByRecursion CanBeMade (wanted_lsas stub_router router links stubs)
unfolding wanted_lsas
wanted_made stub_router router links stubs up few_stubs =
    let of_links = flat_map (links_of_link stub_router) links in
    let of_stubs = map stub_link stubs in
    let few : length links ≤ 32 = up.few in
    let short : 24 + 12 * length (of_links ++ of_stubs) ≤ 16356 =
    let some_links = all_few stub_router links up.each in omega (arith, some_links, few, few_stubs, length-append of_links of_stubs, length-map stubs stub_link) in
    let good : AllByRecursion IsGood (of_links ++ of_stubs) = both_lists IsGood of_links of_stubs (all_good stub_router links up.each) (mapped IsGood stub_link stubs stub_good) in (
      (λ number used. router_needs number (of_links ++ of_stubs) short good used),
      all_networks CanBeMade router links (map_all IsSetUp (λ l. CanBeMade (network_of router l)) (λ l is number used. network_made router number l used is) links up.each),
    )

-- so can the one that is found
of_all : (P : WantedValue → Type 0) (ws : List WantedValue) (key : LsaKey) (w : WantedValue) → AllByRecursion P ws → wanted_of ws key ≡ Some w → P w
of_all P [] key w all is = absurd (none-some w is)
of_all P (x ∷ xs) key w all is = by_test (same_key (wanted_key x) key) (of_all P xs key w all.1) is
  where
    by_test : (b : Bool) → (wanted_of xs key ≡ Some w → P w) → (if b then Some x else wanted_of xs key) ≡ Some w → P w
    by_test true later e = subst P (same_Some x w e) all.0
    by_test false later e = later e

pub found_made : (ws : List WantedValue) (key : LsaKey) (number : ℤ) → AllByRecursion CanBeMade ws → number ≢ unused_number → CanBeMadeIf number (wanted_of ws key)
found_made ws key number all used = by_found (wanted_of ws key) refl
  where
    by_found : (o : Option WantedValue) → wanted_of ws key ≡ o → CanBeMadeIf number o
    by_found None e = tt
    by_found (Some w) e = of_all CanBeMade ws key w all e number used

-- where nothing else is missing, memory is
only_memory : (Rule : LsaFault → Type 0) (f : LsaFault) → HasAll Rule → IsUnmade Rule f → f ≡ fault.Memory
only_memory Rule f all (inl is) = is.0
only_memory Rule f all (inr first) = absurd (first.broken (all f))

pub found_memory : (ws : List WantedValue) (key : LsaKey) (f : LsaFault) → AllByRecursion CanBeMade ws → IsUnmadeIf (wanted_of ws key) f → f ≡ fault.Memory
found_memory ws key f all is = by_found (wanted_of ws key) (found_made ws key first_number all (λ e. absurd (omega (arith, ints, e)))) is
  where
    by_found : (o : Option WantedValue) → CanBeMadeIf first_number o → IsUnmadeIf o f → f ≡ fault.Memory
    by_found None can unmade = absurd unmade
    by_found (Some w) can unmade = only_memory (Needs first_number w) f can unmade
