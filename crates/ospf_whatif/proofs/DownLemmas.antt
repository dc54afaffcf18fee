-- Interfaces that change, and what their router wants then.
use Rattle.std.proofs.Common.{◌≡◌, ◌≢◌, ◌&&◌, ◌++◌, ◌∷◌, [], ℕ, Bool, true, false, List, eqb, eq-eqb, map, refl, sym, ap, ◌∙◌, inl, inr, bit_and, if◌then◌else◌}
use Rattle.std.specs.List.{AllByRecursion, filter}
use Rattle.std.proofs.lemmas.List.Concat.{flat_map-append}
use Rattle.std.proofs.lemmas.Bool.Decides.{eqb_tells}
use Rattle.ospf_base.specs.Masks.{mask_of}
use Rattle.ospf_base.specs.declared.ids.RouterId.{RouterId}
use Rattle.ospf_base.specs.declared.interface.InterfaceKind.TheVariants as kind
use Rattle.ospf_base.specs.declared.prefix.Prefix.{Prefix}
use Rattle.ospf_base.specs.declared.stub_network.StubNetwork.{StubNetwork}
use Rattle.ospf_lsa.specs.declared.link.Link.{Link}
use Rattle.ospf_area.specs.State.{LinkValue}
use Rattle.ospf_neighbour.specs.Interface.Machine.{is_down}
use Rattle.ospf_neighbour.specs.Neighbour.{NeighbourValue}
use Rattle.ospf_graph.proofs.ListLemmas.{bool_cases}
use Rattle.ospf_originate.proofs.Wants.Words.{links_of_kind}
use Rattle.ospf_originate.specs.Wants.Wanted.{stub_link, interface_links, is_full, is_transit, links_of_link, network_link, own_links, router_link, subnet_link, subnets_of}
use Rattle.ospf_graph.specs.Advertisements.{Advertisement}
use Rattle.ospf_whatif.specs.Failure.{inner_of, kept_after, kept_links, takes, without, without_all}
use Rattle.ospf_whatif.specs.declared.failure.AreaFailure.{AreaFailure}
use Rattle.ospf_whatif.specs.declared.failure.AreaFailure.TheVariants as fails
use Rattle.ospf_whatif.proofs.WithoutLemmas.{kept_links-append}
use Rattle.ospf_whatif.specs.Wanted.{AreStubsSpared, AreSpared, AreSparedBy, FailuresComeTogether, IsInNone, IsLeft, IsNetworkFailure, IsWireUp}
use Rattle.ospf_originate.proofs.Wants.SaidLemmas.{up_is}

-- ---- links that are all kept, or all taken

kept_all : (inner : List Link) (f : AreaFailure) (r : RouterId) (xs : List Link) → AllByRecursion (λ l. takes inner f r l ≡ false) xs → kept_links inner f r xs ≡ xs
kept_all inner f r [] all = refl
kept_all inner f r (l ∷ rest) all = rw all.0 (ap (λ more. l ∷ more) (kept_all inner f r rest all.1))

kept_none : (inner : List Link) (f : AreaFailure) (r : RouterId) (xs : List Link) → AllByRecursion (λ l. takes inner f r l ≡ true) xs → kept_links inner f r xs ≡ []
kept_none inner f r [] all = refl
kept_none inner f r (l ∷ rest) all = rw all.0 (kept_none inner f r rest all.1)

-- ---- links to stub networks

-- what passes none of them
no_stub : (p : Link → Bool) → ((h : StubNetwork) → p (stub_link h) ≡ false) → (stubs : List StubNetwork) → AllByRecursion (λ l. p l ≡ false) (map stub_link stubs)
no_stub p none [] = tt
no_stub p none (h ∷ hs) = (none h, no_stub p none hs)

-- ---- the link to a subnet

-- it goes with the link, unless it is suppressed and not listed anyway
subnets_gone : (inner : List Link) (f : AreaFailure) (r : RouterId) (l : LinkValue) → takes inner f r (subnet_link l) ≡ true → kept_links inner f r (subnets_of l) ≡ []
subnets_gone inner f r l taken = by_test l.settings.suppressed
  where
    by_test : (t : Bool) → kept_links inner f r (if t then [] else subnet_link l ∷ []) ≡ []
    by_test true = refl
    by_test false = rw taken refl

subnets_stay : (inner : List Link) (f : AreaFailure) (r : RouterId) (l : LinkValue) → takes inner f r (subnet_link l) ≡ false → kept_links inner f r (subnets_of l) ≡ subnets_of l
subnets_stay inner f r l spared = by_test l.settings.suppressed
  where
    by_test : (t : Bool) → kept_links inner f r (if t then [] else subnet_link l ∷ []) ≡ (if t then [] else subnet_link l ∷ [])
    by_test true = refl
    by_test false = rw spared refl

-- ---- one interface changes

module _ (inner : List Link) (f : AreaFailure) (router : RouterId) (stub_router : Bool) (front back : List LinkValue) (before after : LinkValue) (stubs : List StubNetwork)
    (spared_front : AreSpared inner f router stub_router front) (spared_back : AreSpared inner f router stub_router back) (spared_stubs : AreStubsSpared inner f router stubs) where
  split : (l : LinkValue) → interface_links stub_router (front ++ l ∷ back) ≡ interface_links stub_router front ++ (links_of_link stub_router l ++ interface_links stub_router back)
  split l = flat_map-append (links_of_link stub_router) front (l ∷ back)

  interfaces_left : kept_links inner f router (links_of_link stub_router before) ≡ links_of_link stub_router after
      → kept_links inner f router (interface_links stub_router (front ++ before ∷ back)) ≡ interface_links stub_router (front ++ after ∷ back)
  interfaces_left one =
      ap (λ ls. kept_links inner f router ls) (split before)
      ∙ kept_links-append inner f router (interface_links stub_router front) (links_of_link stub_router before ++ interface_links stub_router back)
      ∙ ap (λ ls. kept_links inner f router (interface_links stub_router front) ++ ls) (kept_links-append inner f router (links_of_link stub_router before) (interface_links stub_router back))
      ∙ (λ i. kept_all inner f router (interface_links stub_router front) spared_front i ++ (one i ++ kept_all inner f router (interface_links stub_router back) spared_back i))
      ∙ sym (split after)

  left : kept_links inner f router (links_of_link stub_router before) ≡ links_of_link stub_router after → IsLeft inner f router stub_router front before after back stubs
  left one =
      kept_links-append inner f router (interface_links stub_router (front ++ before ∷ back)) (map stub_link stubs)
      ∙ (λ i. interfaces_left one i ++ kept_all inner f router (map stub_link stubs) spared_stubs i)

down_is : (stub_router : Bool) (l : LinkValue) → is_down l.iface.state ≡ true → links_of_link stub_router l ≡ []
unfolding links_of_link
down_is stub_router l down = rw down refl

wire_is : (stub_router : Bool) (l : LinkValue) → is_down l.iface.state ≡ false → l.iface.settings.kind ≡ kind.PointToPoint
    → links_of_link stub_router l ≡ map (router_link stub_router l) (filter is_full l.neighbours) ++ subnets_of l
wire_is stub_router l up is = up_is stub_router l up ∙ ap (λ k. links_of_kind k stub_router l) is

-- ---- a point-to-point link

module _ (inner : List Link) (router other : RouterId) (subnet : Prefix) (stub_router : Bool) (l : LinkValue) (w : IsWireUp l other subnet) (none : IsInNone inner l) where
  f : AreaFailure
  f = fails.Link router other subnet

  masked : bit_and l.iface.settings.address.0 (mask_of subnet.length) ≡ subnet.address.0
  masked = ap (λ m. bit_and l.iface.settings.address.0 m) (sym w.in_subnet.mask_is) ∙ sym w.in_subnet.masked

  there : eqb (bit_and l.iface.settings.address.0 (mask_of subnet.length)) subnet.address.0 ≡ true
  there = eq-eqb _ _ masked

  own : eqb router.0 router.0 ≡ true
  own = eq-eqb _ _ refl

  to_taken : (n : NeighbourValue) → n.router ≡ other → takes inner (fails.Link router other subnet) router (router_link stub_router l n) ≡ true
  to_taken n is =
      let same : eqb n.router.0 other.0 ≡ true = eq-eqb _ _ (ap (λ (r : RouterId). r.0) is) in
      rw (own, same, there, none) refl

  subnet_taken : takes inner (fails.Link router other subnet) router (subnet_link l) ≡ true
  subnet_taken =
      let mask : eqb l.iface.settings.mask (mask_of subnet.length) ≡ true = eq-eqb _ _ w.in_subnet.mask_is in
      let twice : bit_and (bit_and l.iface.settings.address.0 l.iface.settings.mask) (mask_of subnet.length) ≡ subnet.address.0 =
      ap (λ a. bit_and a (mask_of subnet.length)) (sym w.in_subnet.masked) ∙ subnet.masked in
      let at : eqb (bit_and (bit_and l.iface.settings.address.0 l.iface.settings.mask) (mask_of subnet.length)) subnet.address.0 ≡ true = eq-eqb _ _ twice in
      rw (own, mask, at) refl

  neighbours_taken : (ns : List NeighbourValue) → AllByRecursion (λ n. n.router ≡ other) ns
      → kept_links inner (fails.Link router other subnet) router (map (router_link stub_router l) (filter is_full ns) ++ subnets_of l) ≡ []
  neighbours_taken [] all = subnets_gone inner (fails.Link router other subnet) router l subnet_taken
  neighbours_taken (n ∷ ns) all =
      elim (bool_cases (is_full n)) [
        | inl full ↦ rw (full, to_taken n all.0) (neighbours_taken ns all.1)
        | inr less ↦ rw less (neighbours_taken ns all.1)
      ]

  all_taken : kept_links inner (fails.Link router other subnet) router (links_of_link stub_router l) ≡ []
  all_taken = ap (λ ls. kept_links inner (fails.Link router other subnet) router ls) (wire_is stub_router l w.up w.kind_is) ∙ neighbours_taken l.neighbours w.alone

pub links_go_down : (inner : List Link) (router other : RouterId) (subnet : Prefix) (stub_router : Bool) (front back : List LinkValue) (before after : LinkValue) (stubs : List StubNetwork)
    → IsWireUp before other subnet → IsInNone inner before → is_down after.iface.state ≡ true → AreSpared inner (fails.Link router other subnet) router stub_router front
    → AreSpared inner (fails.Link router other subnet) router stub_router back → AreStubsSpared inner (fails.Link router other subnet) router stubs
    → IsLeft inner (fails.Link router other subnet) router stub_router front before after back stubs
links_go_down inner router other subnet stub_router front back before after stubs w none down spared_front spared_back spared_stubs =
    left inner (fails.Link router other subnet) router stub_router front back before after stubs spared_front spared_back spared_stubs
    (all_taken inner router other subnet stub_router before w none ∙ sym (down_is stub_router after down))

-- ---- an end of it, behind a switch

module _ (inner : List Link) (router other : RouterId) (subnet : Prefix) (stub_router : Bool) (l : LinkValue) (w : IsWireUp l other subnet) (none : IsInNone inner l) where
  end_to_taken : (n : NeighbourValue) → n.router ≡ other → takes inner (fails.End router other subnet) router (router_link stub_router l n) ≡ true
  end_to_taken n is =
      let same : eqb n.router.0 other.0 ≡ true = eq-eqb _ _ (ap (λ (r : RouterId). r.0) is) in
      rw (own inner router other subnet stub_router l w none, same, there inner router other subnet stub_router l w none, none) refl

  end_subnet_taken : takes inner (fails.End router other subnet) router (subnet_link l) ≡ true
  end_subnet_taken =
      let mask : eqb l.iface.settings.mask (mask_of subnet.length) ≡ true = eq-eqb _ _ w.in_subnet.mask_is in
      let twice : bit_and (bit_and l.iface.settings.address.0 l.iface.settings.mask) (mask_of subnet.length) ≡ subnet.address.0 =
      ap (λ a. bit_and a (mask_of subnet.length)) (sym w.in_subnet.masked) ∙ subnet.masked in
      let at : eqb (bit_and (bit_and l.iface.settings.address.0 l.iface.settings.mask) (mask_of subnet.length)) subnet.address.0 ≡ true = eq-eqb _ _ twice in
      rw (own inner router other subnet stub_router l w none, mask, at) refl

  end_neighbours_taken : (ns : List NeighbourValue) → AllByRecursion (λ n. n.router ≡ other) ns
      → kept_links inner (fails.End router other subnet) router (map (router_link stub_router l) (filter is_full ns) ++ subnets_of l) ≡ []
  end_neighbours_taken [] all = subnets_gone inner (fails.End router other subnet) router l end_subnet_taken
  end_neighbours_taken (n ∷ ns) all =
      elim (bool_cases (is_full n)) [
        | inl full ↦ rw (full, end_to_taken n all.0) (end_neighbours_taken ns all.1)
        | inr less ↦ rw less (end_neighbours_taken ns all.1)
      ]

  end_all_taken : kept_links inner (fails.End router other subnet) router (links_of_link stub_router l) ≡ []
  end_all_taken = ap (λ ls. kept_links inner (fails.End router other subnet) router ls) (wire_is stub_router l w.up w.kind_is) ∙ end_neighbours_taken l.neighbours w.alone

pub ends_go_down : (inner : List Link) (router other : RouterId) (subnet : Prefix) (stub_router : Bool) (front back : List LinkValue) (before after : LinkValue) (stubs : List StubNetwork)
    → IsWireUp before other subnet → IsInNone inner before → is_down after.iface.state ≡ true → AreSpared inner (fails.End router other subnet) router stub_router front
    → AreSpared inner (fails.End router other subnet) router stub_router back → AreStubsSpared inner (fails.End router other subnet) router stubs
    → IsLeft inner (fails.End router other subnet) router stub_router front before after back stubs
ends_go_down inner router other subnet stub_router front back before after stubs w none down spared_front spared_back spared_stubs =
    left inner (fails.End router other subnet) router stub_router front back before after stubs spared_front spared_back spared_stubs
    (end_all_taken inner router other subnet stub_router before w none ∙ sym (down_is stub_router after down))

-- ---- a transit network

and_false : (b : Bool) → (b && false) ≡ false
and_false true = refl
and_false false = refl

network_taken : (inner : List Link) (f : AreaFailure) (router : RouterId) (network : ℕ) (l : LinkValue) (stub_router : Bool) → IsNetworkFailure f router network → l.iface.dr.0 ≡ network
    → takes inner f router (network_link stub_router l) ≡ true
network_taken inner (fails.Attachment q n) router network l stub_router of is =
    let one : eqb router.0 q.0 ≡ true = eq-eqb _ _ (ap (λ (r : RouterId). r.0) (sym of.0)) in
    let two : eqb l.iface.dr.0 n ≡ true = eq-eqb _ _ (is ∙ sym of.1) in
    rw (one, two) refl
network_taken inner (fails.Network n) router network l stub_router of is = eq-eqb _ _ (is ∙ sym of)
network_taken inner (fails.Link _ _ _) router network l stub_router of is = absurd of
network_taken inner (fails.End _ _ _) router network l stub_router of is = absurd of
network_taken inner (fails.Links _ _) router network l stub_router of is = absurd of
network_taken inner (fails.Stub _ _) router network l stub_router of is = absurd of
network_taken inner (fails.Router _) router network l stub_router of is = absurd of

-- no stub network is a transit network
network_stubs : (inner : List Link) (f : AreaFailure) (router : RouterId) (network : ℕ) (stubs : List StubNetwork) → IsNetworkFailure f router network → AreStubsSpared inner f router stubs
network_stubs inner (fails.Attachment q n) router network stubs of = no_stub (takes inner (fails.Attachment q n) router) (λ h. and_false (eqb router.0 q.0)) stubs
network_stubs inner (fails.Network n) router network stubs of = no_stub (takes inner (fails.Network n) router) (λ h. refl) stubs
network_stubs inner (fails.Link _ _ _) router network stubs of = absurd of
network_stubs inner (fails.End _ _ _) router network stubs of = absurd of
network_stubs inner (fails.Links _ _) router network stubs of = absurd of
network_stubs inner (fails.Stub _ _) router network stubs of = absurd of
network_stubs inner (fails.Router _) router network stubs of = absurd of

pub interfaces_go_down : (inner : List Link) (router : RouterId) (stub_router : Bool) (front back : List LinkValue) (before after : LinkValue) (stubs : List StubNetwork)
    → is_down before.iface.state ≡ false → before.iface.settings.kind ≡ kind.Broadcast → is_transit before ≡ true → is_down after.iface.state ≡ true
    → (f : AreaFailure) → IsNetworkFailure f router before.iface.dr.0 → AreSpared inner f router stub_router front → AreSpared inner f router stub_router back
    → IsLeft inner f router stub_router front before after back stubs
interfaces_go_down inner router stub_router front back before after stubs up is transit down f of spared_front spared_back =
    let one : links_of_link stub_router before ≡ network_link stub_router before ∷ [] =
    up_is stub_router before up ∙ ap (λ k. links_of_kind k stub_router before) is ∙ rw transit refl in
    left inner f router stub_router front back before after stubs spared_front spared_back (network_stubs inner f router before.iface.dr.0 stubs of)
    (ap (λ ls. kept_links inner f router ls) one ∙ rw (network_taken inner f router before.iface.dr.0 before stub_router of refl) refl ∙ sym (down_is stub_router after down))

-- ---- a neighbour that is heard no more

module _ (inner : List Link) (router gone : RouterId) (stub_router : Bool) (l : LinkValue) (apart : router.0 ≢ gone.0) where
  not_own : eqb router.0 gone.0 ≡ false
  not_own = elim (eqb_tells router.0 gone.0) [ inl w ↦ absurd (apart w.1) | inr w ↦ w.0 ]

  subnet_stays : takes inner (fails.Router gone) router (subnet_link l) ≡ false
  subnet_stays = rw not_own refl

  stub_stays : (h : StubNetwork) → takes inner (fails.Router gone) router (stub_link h) ≡ false
  stub_stays h = rw not_own refl

  link_goes : (n : NeighbourValue) → n.router ≡ gone → takes inner (fails.Router gone) router (router_link stub_router l n) ≡ true
  link_goes n is = let same : eqb n.router.0 gone.0 ≡ true = eq-eqb _ _ (ap (λ (r : RouterId). r.0) is) in rw (not_own, same) refl

  only_subnet : (ns : List NeighbourValue) → AllByRecursion (λ n. n.router ≡ gone) ns
      → kept_links inner (fails.Router gone) router (map (router_link stub_router l) (filter is_full ns) ++ subnets_of l) ≡ subnets_of l
  only_subnet [] all = subnets_stay inner (fails.Router gone) router l subnet_stays
  only_subnet (n ∷ ns) all =
      elim (bool_cases (is_full n)) [
        | inl full ↦ rw (full, link_goes n all.0) (only_subnet ns all.1)
        | inr less ↦ rw less (only_subnet ns all.1)
      ]

-- what the interface makes where nobody is heard on it
silent : (stub_router : Bool) (before after : LinkValue) (other : RouterId) (subnet : Prefix) → IsWireUp before other subnet → after.iface ≡ before.iface → after.settings ≡ before.settings
    → after.neighbours ≡ [] → links_of_link stub_router after ≡ subnets_of before
silent stub_router before after other subnet w iface settings none =
    let up : is_down after.iface.state ≡ false = ap (λ x. is_down x.state) iface ∙ w.up in
    let is : after.iface.settings.kind ≡ kind.PointToPoint = ap (λ x. x.settings.kind) iface ∙ w.kind_is in
    let same : subnets_of after ≡ subnets_of before = λ i. subnets_of (record after { iface = iface i; settings = settings i }) in
    wire_is stub_router after up is ∙ ap (λ ns. map (router_link stub_router after) (filter is_full ns) ++ subnets_of after) none ∙ same

pub routers_stop : (inner : List Link) (router gone : RouterId) (subnet : Prefix) (stub_router : Bool) (front back : List LinkValue) (before after : LinkValue) (stubs : List StubNetwork)
    → router.0 ≢ gone.0 → IsWireUp before gone subnet → after.iface ≡ before.iface → after.settings ≡ before.settings → after.neighbours ≡ []
    → AreSpared inner (fails.Router gone) router stub_router front → AreSpared inner (fails.Router gone) router stub_router back
    → IsLeft inner (fails.Router gone) router stub_router front before after back stubs
routers_stop inner router gone subnet stub_router front back before after stubs apart w iface settings none spared_front spared_back =
    left inner (fails.Router gone) router stub_router front back before after stubs spared_front spared_back
    (no_stub (takes inner (fails.Router gone) router) (stub_stays inner router gone stub_router before apart) stubs)
    (ap (λ ls. kept_links inner (fails.Router gone) router ls) (wire_is stub_router before w.up w.kind_is) ∙ only_subnet inner router gone stub_router before apart before.neighbours w.alone
    ∙ sym (silent stub_router before after gone subnet w iface settings none))

-- ---- behind a switch

module _ (inner : List Link) (router gone : RouterId) (subnet : Prefix) (stub_router : Bool) (l : LinkValue) (apart : router.0 ≢ gone.0) (w : IsWireUp l gone subnet)
    (none : IsInNone inner l) where
  far_own : eqb router.0 router.0 ≡ true
  far_own = eq-eqb _ _ refl

  far_not : eqb router.0 gone.0 ≡ false
  far_not = elim (eqb_tells router.0 gone.0) [ inl w ↦ absurd (apart w.1) | inr w ↦ w.0 ]

  far_subnet_stays : takes inner (fails.End gone router subnet) router (subnet_link l) ≡ false
  far_subnet_stays = rw (far_not, far_own) refl

  far_stub_stays : (h : StubNetwork) → takes inner (fails.End gone router subnet) router (stub_link h) ≡ false
  far_stub_stays h = rw (far_not, far_own) refl

  far_link_goes : (n : NeighbourValue) → n.router ≡ gone → takes inner (fails.End gone router subnet) router (router_link stub_router l n) ≡ true
  far_link_goes n is =
      let same : eqb n.router.0 gone.0 ≡ true = eq-eqb _ _ (ap (λ (r : RouterId). r.0) is) in
      rw (far_not, far_own, same, there inner router gone subnet stub_router l w none, none) refl

  far_only_subnet : (ns : List NeighbourValue) → AllByRecursion (λ n. n.router ≡ gone) ns
      → kept_links inner (fails.End gone router subnet) router (map (router_link stub_router l) (filter is_full ns) ++ subnets_of l) ≡ subnets_of l
  far_only_subnet [] all = subnets_stay inner (fails.End gone router subnet) router l far_subnet_stays
  far_only_subnet (n ∷ ns) all =
      elim (bool_cases (is_full n)) [
        | inl full ↦ rw (full, far_link_goes n all.0) (far_only_subnet ns all.1)
        | inr less ↦ rw less (far_only_subnet ns all.1)
      ]

pub far_ends_stay_up : (inner : List Link) (router gone : RouterId) (subnet : Prefix) (stub_router : Bool) (front back : List LinkValue) (before after : LinkValue) (stubs : List StubNetwork)
    → router.0 ≢ gone.0 → IsWireUp before gone subnet → IsInNone inner before → after.iface ≡ before.iface → after.settings ≡ before.settings → after.neighbours ≡ []
    → AreSpared inner (fails.End gone router subnet) router stub_router front → AreSpared inner (fails.End gone router subnet) router stub_router back
    → IsLeft inner (fails.End gone router subnet) router stub_router front before after back stubs
far_ends_stay_up inner router gone subnet stub_router front back before after stubs apart w none iface settings empty spared_front spared_back =
    left inner (fails.End gone router subnet) router stub_router front back before after stubs spared_front spared_back
    (no_stub (takes inner (fails.End gone router subnet) router) (far_stub_stays inner router gone subnet stub_router before apart w none) stubs)
    (ap (λ ls. kept_links inner (fails.End gone router subnet) router ls) (wire_is stub_router before w.up w.kind_is)
    ∙ far_only_subnet inner router gone subnet stub_router before apart w none before.neighbours w.alone
    ∙ sym (silent stub_router before after gone subnet w iface settings empty))

-- ---- failures that come together

spared_stay : (A : List Advertisement) (fs : List AreaFailure) (router : RouterId) (links : List Link) → AreSparedBy A fs router links → kept_after A fs router links ≡ links
spared_stay A [] router links all = refl
spared_stay A (f ∷ fs) router links all =
    ap (λ ls. kept_after (without f A) fs router ls) (kept_all (inner_of f A) f router links all.0) ∙ spared_stay (without f A) fs router links all.1

come_together : (A : List Advertisement) (earlier later : List AreaFailure) (f : AreaFailure) (router : RouterId) (before after : List Link) → AreSparedBy A earlier router before
    → kept_links (inner_of f (without_all earlier A)) f router before ≡ after → AreSparedBy (without f (without_all earlier A)) later router after
    → kept_after A (earlier ++ f ∷ later) router before ≡ after
come_together A [] later f router before after first one rest = ap (λ ls. kept_after (without f A) later router ls) one ∙ spared_stay (without f A) later router after rest
come_together A (e ∷ earlier) later f router before after first one rest =
    ap (λ ls. kept_after (without e A) (earlier ++ f ∷ later) router ls) (kept_all (inner_of e A) e router before first.0)
    ∙ come_together (without e A) earlier later f router before after first.1 one rest

pub failures_come_together : FailuresComeTogether
failures_come_together A earlier later f router stub_router front back before after stubs first one rest =
    come_together A earlier later f router (own_links stub_router (front ++ before ∷ back) stubs) (own_links stub_router (front ++ after ∷ back) stubs) first one rest
