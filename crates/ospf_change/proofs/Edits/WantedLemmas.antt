-- What routers want after a change.
use Rattle.std.proofs.Common.{if◌then◌else◌, ◌≡◌, ◌≢◌, ◌==◌, ◌&&◌, ◌||◌, ◌++◌, ◌∷◌, [], ℕ, Bool, true, false, not, List, map, refl, sym, ap, subst, ◌∙◌, inl, inr, eq-eqb, bit_and}
use Rattle.std.specs.List.{AllByRecursion, filter, flat_map, list_any}
use Rattle.std.proofs.lemmas.List.{append_assoc, map-append}
use Rattle.std.proofs.lemmas.List.Concat.{flat_map-append}
use Rattle.std.proofs.lemmas.List.Folds.{list_any-append}
use Rattle.std.proofs.lemmas.Bool.Decides.{eqb_tells}
use Rattle.ospf_base.specs.Masks.{mask_of}
use Rattle.ospf_base.specs.declared.ids.RouterId.{RouterId}
use Rattle.ospf_base.specs.declared.interface.InterfaceKind.{InterfaceKind}
use Rattle.ospf_base.specs.declared.interface.InterfaceKind.TheVariants as kind
use Rattle.ospf_base.specs.declared.prefix.Prefix.{Prefix}
use Rattle.ospf_base.specs.declared.stub_network.StubNetwork.{StubNetwork}
use Rattle.ospf_lsa.specs.declared.link.Link.{Link}
use Rattle.ospf_area.specs.State.{LinkValue}
use Rattle.ospf_neighbour.specs.Interface.Machine.{is_down}
use Rattle.ospf_neighbour.specs.Neighbour.{NeighbourValue}
use Rattle.ospf_graph.proofs.ListLemmas.{bool_cases}
use Rattle.ospf_originate.proofs.Wants.SaidLemmas.{up_is}
use Rattle.ospf_originate.proofs.Wants.Words.{links_of_kind}
use Rattle.ospf_originate.specs.Wants.Wanted.{stub_link, interface_links, is_full, is_transit, links_of_link, network_link, own_links, router_link, subnet_link, subnets_of}
use Rattle.ospf_whatif.specs.Wanted.{IsOnTransit}
use Rattle.ospf_change.specs.Edit.Change.{gets_cost, has_own_subnet, is_longer_subnet, is_own_subnet, is_router_link, is_subnet_with, picks, priced_link, priced_links, with_cost}
use Rattle.ospf_change.specs.Edit.Wanted.{AreStubsSparedFrom, CostsAreWanted, DrainsAreWanted, HasOtherCost, IsLongestSubnet, IsWired, LeavesBy}
use Rattle.ospf_change.specs.declared.edit.change.Change.{Change}
use Rattle.ospf_change.specs.declared.edit.change.Change.TheVariants.{Cost, Drain}

down_is : (stub_router : Bool) (l : LinkValue) → is_down l.iface.state ≡ true → links_of_link stub_router l ≡ []
unfolding links_of_link
down_is stub_router l down = rw down refl

-- ---- a drained router

module _ (router : RouterId) (all : List Link) where
  drained : Link → Link
  drained = priced_link (Drain router) all

  drained_routers : (l : LinkValue) (ns : List NeighbourValue) → map (router_link true l) ns ≡ map (priced_link (Drain router) all) (map (router_link false l) ns)
  drained_routers l [] = refl
  drained_routers l (n ∷ ns) = ap (λ (ls : List Link). router_link true l n ∷ ls) (drained_routers l ns)

  drained_subnets : (l : LinkValue) → subnets_of l ≡ map (priced_link (Drain router) all) (subnets_of l)
  drained_subnets l = by_test l.settings.suppressed
    where
      by_test : (t : Bool) → (if t then [] else subnet_link l ∷ []) ≡ map (priced_link (Drain router) all) (if t then [] else subnet_link l ∷ [])
      by_test true = refl
      by_test false = refl

  drained_kind : (l : LinkValue) (k : InterfaceKind) → links_of_kind k true l ≡ map (priced_link (Drain router) all) (links_of_kind k false l)
  drained_kind l kind.PointToPoint =
      (λ i. drained_routers l (filter is_full l.neighbours) i ++ drained_subnets l i)
      ∙ sym (map-append (priced_link (Drain router) all) (map (router_link false l) (filter is_full l.neighbours)) (subnets_of l))
  drained_kind l kind.Broadcast = elim (bool_cases (is_transit l)) [ inl sure ↦ rw sure refl | inr less ↦ rw less refl ]

  drained_link : (l : LinkValue) → links_of_link true l ≡ map (priced_link (Drain router) all) (links_of_link false l)
  drained_link l = elim (bool_cases (is_down l.iface.state)) [
    | inl down ↦ down_is true l down ∙ sym (ap (map (priced_link (Drain router) all)) (down_is false l down))
    | inr up ↦ up_is true l up ∙ drained_kind l l.iface.settings.kind ∙ sym (ap (map (priced_link (Drain router) all)) (up_is false l up))
  ]

  drained_links : (ls : List LinkValue) → interface_links true ls ≡ map (priced_link (Drain router) all) (interface_links false ls)
  drained_links [] = refl
  drained_links (l ∷ ls) =
      (λ i. drained_link l i ++ drained_links ls i) ∙ sym (map-append (priced_link (Drain router) all) (links_of_link false l) (interface_links false ls))

  drained_stubs : (stubs : List StubNetwork) → map stub_link stubs ≡ map (priced_link (Drain router) all) (map stub_link stubs)
  drained_stubs [] = refl
  drained_stubs (h ∷ hs) = ap (λ (ls : List Link). stub_link h ∷ ls) (drained_stubs hs)

own : (router : RouterId) (A B : List Link) → (if router.0 == router.0 then A else B) ≡ A
own router A B = let same : (router.0 == router.0) ≡ true = eq-eqb router.0 router.0 refl in rw same refl

pub drains_are_wanted : DrainsAreWanted
drains_are_wanted router links stubs =
    let all = own_links false links stubs in
    (λ i. drained_links router all links i ++ drained_stubs router all stubs i)
    ∙ sym (map-append (priced_link (Drain router) all) (interface_links false links) (map stub_link stubs))
    ∙ sym (own router (map (priced_link (Drain router) all) all) all)

-- ---- another cost

spared_stay : (c : Change) (all xs : List Link) → AllByRecursion (λ l. gets_cost c all l ≡ false) xs → map (priced_link c all) xs ≡ xs
spared_stay c all [] spared = refl
spared_stay c all (l ∷ xs) spared =
    let one : priced_link c all l ≡ l = rw spared.0 refl in
    λ i. one i ∷ spared_stay c all xs spared.1 i

abbrev change_of : RouterId → LinkValue → LinkValue → Change
change_of router before after = Cost router before.iface.settings.address after.settings.cost

same_number : (n : ℕ) → (n == n) ≡ true
same_number n = eq-eqb n n refl

and_false : (b : Bool) → (b && false) ≡ false
and_false true = refl
and_false false = refl

or_true : (b : Bool) → (b || true) ≡ true
or_true true = refl
or_true false = refl

-- some neighbour is fully adjacent, and what it makes passes
any_full : (q : Link → Bool) (f : NeighbourValue → Link) → ((n : NeighbourValue) → q (f n) ≡ true) → (ns : List NeighbourValue) → list_any is_full ns ≡ true
    → list_any q (map f (filter is_full ns)) ≡ true
any_full q f passes [] some = some
any_full q f passes (n ∷ ns) some =
    elim (bool_cases (is_full n)) [
      | inl full ↦ rw (full, passes n) refl
      | inr less ↦ let later : list_any is_full ns ≡ true = rw less at some in rw less (any_full q f passes ns later)
    ]

wire_is : (l : LinkValue) → is_down l.iface.state ≡ false → l.iface.settings.kind ≡ kind.PointToPoint
    → links_of_link false l ≡ map (router_link false l) (filter is_full l.neighbours) ++ subnets_of l
wire_is l up is = up_is false l up ∙ ap (λ k. links_of_kind k false l) is

transit_is : (l : LinkValue) → is_down l.iface.state ≡ false → l.iface.settings.kind ≡ kind.Broadcast → is_transit l ≡ true → links_of_link false l ≡ network_link false l ∷ []
transit_is l up is transit = up_is false l up ∙ ap (λ k. links_of_kind k false l) is ∙ rw transit refl

module _ (router : RouterId) (all : List Link) (before after : LinkValue) (other : HasOtherCost before after) where
  -- the links that leave by the interface
  to_priced : (n : NeighbourValue) → priced_link (change_of router before after) all (router_link false before n) ≡ router_link false after n
  to_priced n =
      rw (same_number before.iface.settings.address.0) (λ i. record {
        id = n.router.0;
        link_data = (sym other.iface i).settings.address.0;
        kind = (router_link false before n).kind;
        metric = after.settings.cost;
      })

  all_to_priced : (ns : List NeighbourValue) → map (priced_link (change_of router before after) all) (map (router_link false before) ns) ≡ map (router_link false after) ns
  all_to_priced [] = refl
  all_to_priced (n ∷ ns) = λ i. to_priced n i ∷ all_to_priced ns i

  network_priced : priced_link (change_of router before after) all (network_link false before) ≡ network_link false after
  network_priced =
      rw (same_number before.iface.settings.address.0) (λ i. record {
        id = (sym other.iface i).dr.0;
        link_data = (sym other.iface i).settings.address.0;
        kind = (network_link false before).kind;
        metric = after.settings.cost;
      })

  -- and that to its subnet
  subnet_priced : has_own_subnet (change_of router before after) all (subnet_link before) ≡ true
      → priced_link (change_of router before after) all (subnet_link before) ≡ subnet_link after
  subnet_priced sure =
      rw sure (λ i. record {
        id = bit_and (sym other.iface i).settings.address.0 (sym other.iface i).settings.mask;
        link_data = (sym other.iface i).settings.mask;
        kind = (subnet_link before).kind;
        metric = after.settings.cost;
      })

  subnets_priced : has_own_subnet (change_of router before after) all (subnet_link before) ≡ true
      → map (priced_link (change_of router before after) all) (subnets_of before) ≡ subnets_of after
  subnets_priced sure = by_test before.settings.suppressed ∙ ap (λ (t : Bool). if t then [] else subnet_link after ∷ []) (sym other.suppressed)
    where
      by_test : (t : Bool) → map (priced_link (change_of router before after) all) (if t then [] else subnet_link before ∷ []) ≡ (if t then [] else subnet_link after ∷ [])
      by_test true = refl
      by_test false = ap (λ (l : Link). l ∷ []) (subnet_priced sure)

module _ (all : List Link) (l : LinkValue) (subnet : Prefix) (w : IsWired l subnet) (longest : IsLongestSubnet all l) where
  twice : bit_and (bit_and l.iface.settings.address.0 l.iface.settings.mask) l.iface.settings.mask ≡ bit_and l.iface.settings.address.0 l.iface.settings.mask
  twice =
      ap (λ a. bit_and a l.iface.settings.mask) (sym w.in_subnet.masked) ∙ ap (bit_and subnet.address.0) w.in_subnet.mask_is ∙ subnet.masked ∙ w.in_subnet.masked

  held : (bit_and l.iface.settings.address.0 l.iface.settings.mask == bit_and (bit_and l.iface.settings.address.0 l.iface.settings.mask) l.iface.settings.mask) ≡ true
  held = eq-eqb _ _ (sym twice)

  not_host : (l.iface.settings.mask == 0xFFFFFFFF) ≡ false
  not_host = elim (eqb_tells l.iface.settings.mask 0xFFFFFFFF) [ inl sure ↦ absurd (w.no_stub sure.1) | inr less ↦ less.0 ]

  own_is : is_own_subnet all l.iface.settings.address.0 (subnet_link l) ≡ true
  own_is = rw (not_host, w.numbered, held, longest) refl

  own_found : (c : Change) → ((n : NeighbourValue) → picks c (router_link false l n) ≡ true) → (front back : List Link)
      → all ≡ front ++ ((map (router_link false l) (filter is_full l.neighbours) ++ subnets_of l) ++ back) → has_own_subnet c all (subnet_link l) ≡ true
  own_found c picked front back are =
      let q : Link → Bool = (λ (out : Link). picks c out && (is_router_link out && is_own_subnet all out.link_data (subnet_link l))) in
      let made = map (router_link false l) (filter is_full l.neighbours) in
      let one : list_any q made ≡ true = any_full q (router_link false l) (λ n. rw (picked n) own_is) l.neighbours w.adjacent in
      let two : list_any q (made ++ subnets_of l) ≡ true = list_any-append q made (subnets_of l) ∙ rw one refl in
      let three : list_any q ((made ++ subnets_of l) ++ back) ≡ true = list_any-append q (made ++ subnets_of l) back ∙ rw two refl in
      ap (list_any q) are ∙ list_any-append q front ((made ++ subnets_of l) ++ back) ∙ rw three (or_true (list_any q front))

-- what is a transit network does not depend on the cost
same_transit : (before after : LinkValue) → HasOtherCost before after → is_transit after ≡ is_transit before
same_transit before after other = λ i. is_transit (record after { iface = other.iface i; neighbours = other.neighbours i })

split : (front back : List LinkValue) (l : LinkValue) → interface_links false (front ++ l ∷ back) ≡ interface_links false front ++ (links_of_link false l ++ interface_links false back)
split front back l = flat_map-append (links_of_link false) front (l ∷ back)

-- and the links to stub networks behind those of the interfaces
split_all : (front back : List LinkValue) (stubs : List StubNetwork) (l : LinkValue)
    → own_links false (front ++ l ∷ back) stubs ≡ interface_links false front ++ (links_of_link false l ++ own_links false back stubs)
split_all front back stubs l =
    ap (λ (ls : List Link). ls ++ map stub_link stubs) (split front back l)
    ∙ append_assoc (interface_links false front) (links_of_link false l ++ interface_links false back) (map stub_link stubs)
    ∙ ap (λ (ls : List Link). interface_links false front ++ ls) (append_assoc (links_of_link false l) (interface_links false back) (map stub_link stubs))

-- the link to a host is not that to the subnet of an interface
no_host_is_own : (router : RouterId) (before after : LinkValue) (all outs : List Link) (h : StubNetwork) → h.prefix.length ≡ 32
    → list_any (λ out. picks (change_of router before after) out && (is_router_link out && is_own_subnet all out.link_data (stub_link h))) outs ≡ false
no_host_is_own router before after all [] h host = refl
no_host_is_own router before after all (out ∷ outs) h host =
    let picked = picks (change_of router before after) out in
    let q : Link → Bool = (λ (o : Link). picks (change_of router before after) o && (is_router_link o && is_own_subnet all o.link_data (stub_link h))) in
    let ones : (mask_of h.prefix.length == 0xFFFFFFFF) ≡ true = eq-eqb _ _ (ap mask_of host) in
    let none : is_own_subnet all out.link_data (stub_link h) ≡ false = rw ones refl in
    ap (λ (b : Bool). (picked && (is_router_link out && b)) || list_any q outs) none
    ∙ ap (λ (b : Bool). (picked && b) || list_any q outs) (and_false (is_router_link out))
    ∙ ap (λ (b : Bool). b || list_any q outs) (and_false picked)
    ∙ no_host_is_own router before after all outs h host

stub_spared : (router : RouterId) (before after : LinkValue) (all : List Link) (h : StubNetwork)
    → (h.prefix.length ≢ 32 → gets_cost (change_of router before after) all (stub_link h) ≡ false) → gets_cost (change_of router before after) all (stub_link h) ≡ false
stub_spared router before after all h spared = elim (eqb_tells h.prefix.length 32) [
  | inl host ↦ no_host_is_own router before after all all h host.1
  | inr less ↦ spared less.1
]

stubs_spared : (router : RouterId) (before after : LinkValue) (all : List Link) (stubs : List StubNetwork) → AreStubsSparedFrom (change_of router before after) all stubs
    → AllByRecursion (λ l. gets_cost (change_of router before after) all l ≡ false) (map stub_link stubs)
stubs_spared router before after all [] spared = tt
stubs_spared router before after all (h ∷ hs) spared = (stub_spared router before after all h spared.0, stubs_spared router before after all hs spared.1)

interface_priced : (router : RouterId) (front back : List LinkValue) (before after : LinkValue) (stubs : List StubNetwork) → HasOtherCost before after → LeavesBy (own_links false (front ++ before ∷ back) stubs) before
    → map (priced_link (change_of router before after) (own_links false (front ++ before ∷ back) stubs)) (links_of_link false before) ≡ links_of_link false after
interface_priced router front back before after stubs other (inl (subnet, w, longest)) =
    let all = own_links false (front ++ before ∷ back) stubs in
    let c = change_of router before after in
    let made = map (router_link false before) (filter is_full before.neighbours) in
    let wired = wire_is before w.up w.kind_is in
    let are : all ≡ interface_links false front ++ ((made ++ subnets_of before) ++ own_links false back stubs) =
    split_all front back stubs before ∙ ap (λ (ls : List Link). interface_links false front ++ (ls ++ own_links false back stubs)) wired in
    let sure = own_found all before subnet w longest c (λ n. same_number before.iface.settings.address.0) (interface_links false front) (own_links false back stubs) are in
    let up : is_down after.iface.state ≡ false = ap (λ x. is_down x.state) other.iface ∙ w.up in
    let kind_is : after.iface.settings.kind ≡ kind.PointToPoint = ap (λ x. x.settings.kind) other.iface ∙ w.kind_is in
    ap (map (priced_link c all)) wired ∙ map-append (priced_link c all) made (subnets_of before)
    ∙ (λ i. all_to_priced router all before after other (filter is_full before.neighbours) i ++ subnets_priced router all before after other sure i)
    ∙ ap (λ ns. map (router_link false after) (filter is_full ns) ++ subnets_of after) (sym other.neighbours)
    ∙ sym (wire_is after up kind_is)
interface_priced router front back before after stubs other (inr on) =
    let all = own_links false (front ++ before ∷ back) stubs in
    let c = change_of router before after in
    let up : is_down after.iface.state ≡ false = ap (λ x. is_down x.state) other.iface ∙ on.up in
    let kind_is : after.iface.settings.kind ≡ kind.Broadcast = ap (λ x. x.settings.kind) other.iface ∙ on.kind_is in
    let transit : is_transit after ≡ true = same_transit before after other ∙ on.transit in
    ap (map (priced_link c all)) (transit_is before on.up on.kind_is on.transit)
    ∙ (λ i. network_priced router all before after other i ∷ [])
    ∙ sym (transit_is after up kind_is transit)

pub costs_are_wanted : CostsAreWanted
costs_are_wanted router front back before after stubs other leads spared_front spared_back spared_stubs =
    let all = own_links false (front ++ before ∷ back) stubs in
    let c = change_of router before after in
    let p = priced_link c all in
    let none = spared_stay c all (map stub_link stubs) (stubs_spared router before after all stubs spared_stubs) in
    let behind : map p (own_links false back stubs) ≡ own_links false back stubs =
    map-append p (interface_links false back) (map stub_link stubs) ∙ (λ i. spared_stay c all (interface_links false back) spared_back i ++ none i) in
    split_all front back stubs after
    ∙ (λ i. sym (spared_stay c all (interface_links false front) spared_front) i
    ++ (sym (interface_priced router front back before after stubs other leads) i ++ sym behind i))
    ∙ ap (λ (ls : List Link). map p (interface_links false front) ++ ls) (sym (map-append p (links_of_link false before) (own_links false back stubs)))
    ∙ sym (map-append p (interface_links false front) (links_of_link false before ++ own_links false back stubs))
    ∙ ap (map p) (sym (split_all front back stubs before))
    ∙ sym (own router (map p all) all)
