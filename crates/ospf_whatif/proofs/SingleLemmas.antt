-- Single failures of an area, as they are found in lists of edges and ends.
use Rattle.std.proofs.Common.{◌≡◌, ◌+◌, ◌<◌, ◌≤◌, ◌↔◌, ◌⊎◌, ◌∙◌, ◌^◌, ℕ, zero, suc, Bool, List, [], IsTrue, None, Some, map, take, length, get_or, ap, refl, sym, subst, inl, inr, arith}
use Rattle.std.specs.List.{Contains}
use Rattle.std.specs.List.Sorted.{IsPermutation}
use Rattle.std.specs.Prelude.{MatchOption, Option, bit_and}
use Rattle.std.proofs.lemmas.List.Sorted.{Contains-permutation, IsPermutation-sym}
use Rattle.ospf_base.specs.Masks.{mask_of}
use Rattle.ospf_base.specs.declared.ids.RouterId.{RouterId}
use Rattle.ospf_base.specs.declared.prefix.Prefix.{Prefix}
use Rattle.ospf_base.proofs.PrefixLaws.{prefix_same}
use Rattle.ospf_graph.specs.declared.graph.Edge.{Edge}
use Rattle.ospf_graph.specs.declared.graph.Vertex.{Vertex}
use Rattle.ospf_graph.specs.declared.graph.Vertex.TheVariants as vertex
use Rattle.ospf_graph.specs.Advertisements.{Advertisement, router_lsa, network_lsa}
use Rattle.ospf_graph.specs.Graph.{IsEdgeBetween}
use Rattle.ospf_graph.specs.Pairs.{pair_code}
use Rattle.ospf_graph.specs.Routes.{IsEnd}
use Rattle.ospf_graph.specs.Search.{AreFitEdges, HaveSameFrom, vertex_id}
use Rattle.ospf_graph.proofs.ListLemmas.{member_of_map, member_to_map, more_members}
use Rattle.ospf_graph.specs.EdgeLists.Listed.{advertisement_of, advertisements_of}
use Rattle.ospf_graph.specs.declared.edges.end.End.{End}
use Rattle.std.proofs.lemmas.List.{get_or_default}
use Rattle.ospf_graph.specs.Adds.{Adds}
use Rattle.ospf_graph.specs.EdgeLists.Given.{AreEndsAt, IsEdgesOf}
use Rattle.ospf_graph.proofs.EdgeLists.AddsLemmas.{adds_next}
use Rattle.ospf_whatif.specs.Single.{AttachmentGiven, EdgeGiven, GivenBy, HasEndFor, IsFailure, IsInterfaceIndex, IsUnnumberedAt, IsLongestOf, IsLongestSuch, IsOfIndices, IsOn, IsPairOf, IsShared, IsSharedIn, IsWire, IsWireAt, LinksGiven, NetworkGiven, RouterGiven, UnnumberedGiven, WireGiven}
use Rattle.ospf_whatif.specs.declared.failure.AreaFailure.{AreaFailure}
use Rattle.ospf_whatif.specs.declared.failure.AreaFailure.TheVariants.{Attachment, Link, Links, Network, Router, Stub}
use Rattle.ospf_whatif.specs.declared.failure.AreaFailure.TheVariants as fails
use Rattle.ospf_whatif.proofs.OutageLemmas.{from_all}

-- ---- what is added

pub adds_at : {X Y : Type 0} (P : X → Y → Type 0) (xs : List X) (i : ℕ) (d : X) (old mid new : List Y) → i < length xs → Adds (GivenBy P (take i xs)) old mid
    → Adds (P (get_or xs i d)) mid new → Adds (GivenBy P (take (i + 1) xs)) old new
adds_at P xs i d old mid new within before here = adds_next P xs i (get_or xs i d) old mid new within (get_or_default xs i d _ within) before here

-- the same in another order
pub adds_sorted : {X : Type 0} (P : X → Type 0) (old list sorted : List X) → IsPermutation list sorted → Adds P old list → Adds P old sorted
adds_sorted P old list sorted same adds x = (
  λ m. (adds x).0 (Contains-permutation sorted list x (IsPermutation-sym list sorted same) m),
  λ either. Contains-permutation list sorted x same ((adds x).1 either),
)

-- what stands for an edge past the end of a list
abbrev pub no_edge : Edge
no_edge = record { to = vertex.Network 0; from = vertex.Network 0; cost = 0; link_data = 0 }

-- ---- what edges give beside links in subnets

pub one_attachment : (e : Edge) (r : RouterId) (n : ℕ) → e.from ≡ vertex.Router r → e.to ≡ vertex.Network n → (f : AreaFailure)
    → (f ≡ Attachment r n) ↔ AttachmentGiven e f
one_attachment e r n from to f = (
  λ is. (r, n, from, to, is),
  λ g. let a = g.2 in let b = g.3 in let d = g.4 in cc,
)

pub one_network : (e : Edge) (r : RouterId) (n : ℕ) → e.from ≡ vertex.Router r → e.to ≡ vertex.Network n → (f : AreaFailure)
    → (f ≡ Network n) ↔ NetworkGiven e f
one_network e r n from to f = (
  λ is. (r, n, from, to, is),
  λ g. let b = g.3 in let d = g.4 in cc,
)

pub one_links : (wired : List ℕ) (e : Edge) (a b : RouterId) → e.from ≡ vertex.Router a → e.to ≡ vertex.Router b → a.0 < b.0 → (Contains wired (pair_code a.0 b.0) → ⊥)
    → (f : AreaFailure) → (f ≡ Links a b) ↔ LinksGiven wired e f
one_links wired e a b from to less none f = (
  λ is. (a, b, from, to, less, none, is),
  λ g. let d = g.2 in let h = g.3 in let k = g.6 in cc,
)

-- there is one prefix of indices
pub one_indexed : (link_data : ℕ) (a b : RouterId) (p : Prefix) → IsOfIndices p → IsInterfaceIndex link_data → (f : AreaFailure)
    → (f ≡ Link a b p) ↔ IsUnnumberedAt link_data a b f
one_indexed link_data a b p indices index f = (
  λ is. (p, indices, index, is),
  λ g.
      let length : g.0.length ≡ p.length = g.1.of_eight ∙ sym indices.of_eight in
      g.3 ∙ ap (λ q. Link a b q) (prefix_same g.0 p (g.1.from_zero ∙ sym indices.from_zero) length),
)

pub unnumbered_given : (wired : List ℕ) (e : Edge) (a b : RouterId) → e.from ≡ vertex.Router a → e.to ≡ vertex.Router b → a.0 < b.0 → Contains wired (pair_code a.0 b.0)
    → (f : AreaFailure) → IsUnnumberedAt e.link_data a b f ↔ UnnumberedGiven wired e f
unnumbered_given wired e a b from to less there f = (
  λ is. (a, b, from, to, less, there, is),
  λ g.
      let d = g.2 in
      let h = g.3 in
      let one : g.0 ≡ a = cc in
      let two : g.1 ≡ b = cc in
      subst (λ x. IsUnnumberedAt e.link_data x b f) one (subst (λ x. IsUnnumberedAt e.link_data g.0 x f) two g.6),
)

-- ---- the link of an edge in a subnet

pub wire_given : (A : List Advertisement) (e : Edge) (a b : RouterId) → e.from ≡ vertex.Router a → e.to ≡ vertex.Router b → a.0 < b.0
    → (f : AreaFailure) → IsWireAt A a b e.link_data f ↔ WireGiven A e f
wire_given A e a b from to less f = (
  λ w. (a, b, from, to, less, w),
  λ g.
      let d = g.2 in
      let h = g.3 in
      let one : g.0 ≡ a = cc in
      let two : g.1 ≡ b = cc in
      subst (λ x. IsWireAt A x b e.link_data f) one (subst (λ x. IsWireAt A g.0 x e.link_data f) two g.5),
)

-- an address is in one prefix of a length
longest_one : (A : List Advertisement) (a b : RouterId) (address : ℕ) (p q : Prefix) → IsLongestSuch (IsShared A a b address) p → IsLongestSuch (IsShared A a b address) q → q ≡ p
longest_one A a b address p q first second =
    let low = first.1 q second.0 in
    let high = second.1 p first.0 in
    let same : q.length ≡ p.length = omega arith in
    prefix_same q p (sym second.0.here ∙ ap (λ n. bit_and address (mask_of n)) same ∙ first.0.here) same

pub one_wire : (A : List Advertisement) (a b : RouterId) (address : ℕ) (p : Prefix) → IsLongestSuch (IsShared A a b address) p
    → (f : AreaFailure) → (f ≡ Link a b p) ↔ IsWireAt A a b address f
one_wire A a b address p longest f = (
  λ is. (p, longest, is),
  λ g. g.2 ∙ ap (λ q. Link a b q) (longest_one A a b address p g.0 longest g.1),
)

-- ---- the longest prefix of ends

longer_or_not : (m n : ℕ) → (m ≤ n) ⊎ (n < m)
longer_or_not m n = grind arith

module _ (Q : Prefix → Type 0) (ends : List End) (i : ℕ) (x : End) (within : i < length ends) (is : x ≡ get_or ends i x) where
  -- such a prefix of one of the first ends
  abbrev In : ℕ → Prefix → Type 0
  In n p = HasEndFor (take n ends) p × Q p

  one_later : (p : Prefix) → In i p → In (i + 1) p
  one_later p h = ((h.0.0, h.0.1, (more_members ends i x within _).1 (inl h.0.2)), h.1)

  one_more : (p : Prefix) → In (i + 1) p → In i p ⊎ ((x.prefix ≡ p) × Q p)
  one_more p h =
      elim ((more_members ends i x within _).0 h.0.2) [
        | inl old ↦ inl ((h.0.0, h.0.1, old), h.1)
        | inr here ↦ inr (ap (λ (y : End). y.prefix) (is ∙ here), h.1)
      ]

  pub longer_more : (o : Option Prefix) (r : Bool) → MatchOption o (IsTrue r) (λ other. IsTrue r ↔ (other.length < x.prefix.length)) → IsTrue r → Q x.prefix
      → IsLongestOf (In i) o → IsLongestOf (In (i + 1)) (Some x.prefix)
  longer_more o r tells so q before = (
    ((x.vertex, x.cost, (more_members ends i x within x).1 (inr (sym is))), q),
    λ other h. elim (one_more other h) [
      | inr here ↦ let same = ap (λ (p : Prefix). p.length) here.0 in omega arith
      | inl old ↦ older o tells before other old
    ],
  )
    where
      older : (o : Option Prefix) → MatchOption o (IsTrue r) (λ other. IsTrue r ↔ (other.length < x.prefix.length)) → IsLongestOf (In i) o
          → (other : Prefix) → In i other → other.length ≤ x.prefix.length
      older None tells before other old = absurd (before other old)
      older (Some p) tells before other old = let low = before.1 other old in let high = tells.0 so in omega arith

  -- an end that is no longer, or whose prefix is no such
  pub longest_stays : (o : Option Prefix) (r : Bool) → MatchOption o (IsTrue r) (λ other. IsTrue r ↔ (other.length < x.prefix.length)) → (IsTrue r → Q x.prefix → ⊥)
      → IsLongestOf (In i) o → IsLongestOf (In (i + 1)) o
  longest_stays None r tells not before = λ other h. elim (one_more other h) [
    | inl old ↦ before other old
    | inr here ↦ not tells (subst Q (sym here.0) here.1)
  ]
  longest_stays (Some p) r tells not before = (
    one_later p before.0,
    λ other h. elim (one_more other h) [
      | inl old ↦ before.1 other old
      | inr here ↦
          elim (longer_or_not other.length p.length) [
            | inl low ↦ low
            | inr longer ↦ absurd (not (tells.1 (let same = ap (λ (y : Prefix). y.length) here.0 in omega arith)) (subst Q (sym here.0) here.1))
          ]
    ],
  )

longest_as : (P Q : Prefix → Type 0) → ((p : Prefix) → P p ↔ Q p) → (o : Option Prefix) → IsLongestOf P o → IsLongestOf Q o
longest_as P Q both None none = λ p q. none p ((both p).1 q)
longest_as P Q both (Some p) longest = ((both p).0 longest.0, λ other q. longest.1 other ((both other).1 q))

-- two routers without a link in a subnet share no prefix: the longest would be that of one
none_shared : (A : List Advertisement) (a b : RouterId) → a.0 < b.0 → ((subnet : Prefix) → IsWire A a b subnet → ⊥) → (cost address : ℕ)
    → IsEdgeBetween A (vertex.Router a) (vertex.Router b) cost address → (k : ℕ) (p : Prefix) → 33 ≤ p.length + k → IsShared A a b address p → ⊥
none_shared A a b less none cost address edge zero p far s = let low = p.short in absurd (omega arith)
none_shared A a b less none cost address edge (suc k) p far s =
    none p
    record {
      smaller = less;
      cost = cost;
      address = address;
      edge = edge;
      shared = s;
      longest = λ other t. elim (longer_or_not other.length p.length) [
        | inl low ↦ low
        | inr longer ↦ absurd (none_shared A a b less none cost address edge k other (omega arith) t)
      ];
    }

-- ---- near two routers

told : (A : List Advertisement) (v : Vertex) (ends : List End) → AreEndsAt A v ends → (p : Prefix) → HasEndFor ends p → (cost : ℕ) × IsEnd A p v cost
told A v ends are p h =
    let w = (are _).0 h.2 in
    (h.1, subst (λ x. IsEnd A p x h.1) w.1 w.0)

to_tell : (A : List Advertisement) (v : Vertex) (ends : List End) → AreEndsAt A v ends → (p : Prefix) (cost : ℕ) → IsEnd A p v cost → HasEndFor ends p
to_tell A v ends are p cost is = (v, cost, (are _).1 (is, refl))

module _ (A : List Advertisement) (edges back : List Edge) (edges_are : IsEdgesOf A edges) (a b : RouterId) (same : HaveSameFrom (vertex.Router b) edges back)
    (part : (e : Edge) → Contains back e → Contains edges e) (near far : List End) (near_are : AreEndsAt A (vertex.Router a) near) (far_are : AreEndsAt A (vertex.Router b) far)
    (address : ℕ) where
  shared_from : (p : Prefix) → IsSharedIn near far back address a b p → IsShared A a b address p
  shared_from p s =
      let here = told A (vertex.Router a) near near_are p s.0 in
      let there = told A (vertex.Router b) far far_are p s.1.2 in
      let leads = s.1.3 in
      record {
        numbered = s.1.0;
        here = s.1.1;
        metric = here.0;
        told_here = here.1;
        other_metric = there.0;
        told_there = there.1;
        cost = leads.0;
        other_address = leads.1;
        back = (edges_are _).0 (part _ leads.2);
        numbered_back = leads.3;
        there = leads.4;
      }

  shared_to : (p : Prefix) → IsShared A a b address p → IsSharedIn near far back address a b p
  shared_to p s =
      let e : Edge = record { to = vertex.Router a; from = vertex.Router b; cost = s.cost; link_data = s.other_address } in (
        to_tell A (vertex.Router a) near near_are p s.metric s.told_here,
        (
          s.numbered,
          s.here,
          to_tell A (vertex.Router b) far far_are p s.other_metric s.told_there,
          (s.cost, s.other_address, from_all (vertex.Router b) edges back same e ((edges_are e).1 s.back) refl, s.numbered_back, s.there),
        ),
      )

  -- the longest of what is looked at is that of the area
  pub longest_near : (o : Option Prefix) → IsLongestOf (IsSharedIn near far back address a b) o → IsLongestOf (IsShared A a b address) o
  longest_near o longest = longest_as (IsSharedIn near far back address a b) (IsShared A a b address) (λ p. (shared_from p, shared_to p)) o longest

-- ---- all of them

-- pairs are told apart by their numbers
pair_same : (a b c d : RouterId) → b.0 < 2 ^ 32 → d.0 < 2 ^ 32 → pair_code a.0 b.0 ≡ pair_code c.0 d.0 → (a ≡ c) × (b ≡ d)
pair_same a b c d low low' same =
    let first : a.0 ≡ c.0 = omega arith in
    let second : b.0 ≡ d.0 = omega arith in
    ((λ i. record { 0 = first i }), (λ i. record { 0 = second i }))

module _ (A : List Advertisement) (edges : List Edge) (edges_are : IsEdgesOf A edges) (fit : AreFitEdges edges) where
  -- an edge, with the vertices that it is known to join
  edge_of : (e : Edge) → Contains edges e → (v w : Vertex) → e.from ≡ v → e.to ≡ w → IsEdgeBetween A v w e.cost e.link_data
  edge_of e m v w from to =
      subst (λ x. IsEdgeBetween A x w e.cost e.link_data) from (subst (λ x. IsEdgeBetween A e.from x e.cost e.link_data) to ((edges_are e).0 m))

  edge_in : (v w : Vertex) (cost address : ℕ) → IsEdgeBetween A v w cost address → Contains edges (record { to = w; from = v; cost = cost; link_data = address })
  edge_in v w cost address is = (edges_are (record { to = w; from = v; cost = cost; link_data = address })).1 is

  fits : (e : Edge) → Contains edges e → (b : RouterId) → e.to ≡ vertex.Router b → b.0 < 2 ^ 32
  fits e m b to = subst (λ v. vertex_id v < 2 ^ 32) to (fit.id_fits e m)

  module _ (wires : List AreaFailure) (wires_are : Adds (GivenBy (WireGiven A) edges) [] wires) (wired : List ℕ) (wired_are : Adds (GivenBy IsPairOf wires) [] wired) where
    -- what gives a link in a subnet
    given_of : (f : AreaFailure) → Contains wires f → GivenBy (WireGiven A) edges f
    given_of f m = elim ((wires_are f).0 m) [ inl none ↦ absurd (let low = none.1 in omega arith) | inr g ↦ g ]

    wire_of : (f : AreaFailure) → Contains wires f → (a b : RouterId) × (subnet : Prefix) × (f ≡ Link a b subnet) × IsWire A a b subnet
    wire_of f m =
        let g = given_of f m in
        let h = g.2 in
        let w = h.5 in (
          h.0,
          h.1,
          w.0,
          w.2,
          record {
            smaller = h.4;
            cost = g.0.cost;
            address = g.0.link_data;
            edge = edge_of g.0 g.1 (vertex.Router h.0) (vertex.Router h.1) h.2 h.3;
            shared = w.1.0;
            longest = w.1.1;
          },
        )

    wire_sound : (f : AreaFailure) → Contains wires f → IsFailure A f
    wire_sound f m = let w = wire_of f m in subst (λ x. IsFailure A x) (sym w.3) (inl w.4)

    wire_is : (a b : RouterId) (subnet : Prefix) → Contains wires (Link a b subnet) → IsWire A a b subnet
    wire_is a b subnet m =
        let w = wire_of (Link a b subnet) m in
        let is : Link a b subnet ≡ Link w.0 w.1 w.2 = w.3 in
        let one : w.0 ≡ a = cc in
        let two : w.1 ≡ b = cc in
        let three : w.2 ≡ subnet = cc in
        subst (λ x. IsWire A x b subnet) one (subst (λ x. IsWire A w.0 x subnet) two (subst (λ x. IsWire A w.0 w.1 x) three w.4))

    wire_complete : (a b : RouterId) (subnet : Prefix) → IsWire A a b subnet → Contains wires (Link a b subnet)
    wire_complete a b subnet w =
        let e : Edge = record { to = vertex.Router b; from = vertex.Router a; cost = w.cost; link_data = w.address } in
        (wires_are (Link a b subnet)).1
        (inr (e, edge_in (vertex.Router a) (vertex.Router b) w.cost w.address w.edge, (a, b, refl, refl, w.smaller, (subnet, (w.shared, w.longest), refl))))

    wire_fits : (a b : RouterId) (subnet : Prefix) → Contains wires (Link a b subnet) → b.0 < 2 ^ 32
    wire_fits a b subnet m =
        let g = given_of (Link a b subnet) m in
        let h = g.2 in
        let is : Link a b subnet ≡ Link h.0 h.1 h.5.0 = h.5.2 in
        let same : h.1 ≡ b = cc in
        subst (λ (r : RouterId). r.0 < 2 ^ 32) same (fits g.0 g.1 h.1 h.3)

    -- two routers have a link in a subnet exactly where their pair is there
    wired_from : (a b : RouterId) → b.0 < 2 ^ 32 → Contains wired (pair_code a.0 b.0) → (subnet : Prefix) × Contains wires (Link a b subnet)
    wired_from a b low m = elim ((wired_are (pair_code a.0 b.0)).0 m) [
      | inl none ↦ absurd (let few = none.1 in omega arith)
      | inr g ↦
          let p = g.2 in
          let there : Contains wires (Link p.0 p.1 p.2) = subst (λ x. Contains wires x) p.3 g.1 in
          let same = pair_same a b p.0 p.1 low (wire_fits p.0 p.1 p.2 there) p.4 in
          (p.2, subst (λ x. Contains wires (Link x b p.2)) (sym same.0) (subst (λ x. Contains wires (Link p.0 x p.2)) (sym same.1) there))
    ]

    wired_to : (a b : RouterId) (subnet : Prefix) → Contains wires (Link a b subnet) → Contains wired (pair_code a.0 b.0)
    wired_to a b subnet m = (wired_are (pair_code a.0 b.0)).1 (inr (Link a b subnet, m, (a, b, subnet, refl, refl)))

    edge_sound : (f : AreaFailure) (e : Edge) → Contains edges e → EdgeGiven wired e f → IsFailure A f
    edge_sound f e m (inl (inl (inl g))) =
        let is : f ≡ Links g.0 g.1 = g.6 in
        subst (λ x. IsFailure A x) (sym is) (
          g.4,
          (e.cost, e.link_data, edge_of e m (vertex.Router g.0) (vertex.Router g.1) g.2 g.3),
          (λ cost address prefix edge s.
              none_shared A g.0 g.1 g.4 (λ subnet w. g.5 (wired_to g.0 g.1 subnet (wire_complete g.0 g.1 subnet w))) cost address edge 33 prefix (omega arith) s),
        )
    edge_sound f e m (inl (inl (inr g))) =
        let w = wired_from g.0 g.1 (fits e m g.1 g.3) g.5 in
        let x = g.6 in
        subst (λ y. IsFailure A y) (sym x.3)
        (inr
        record {
          smaller = g.4;
          cost = e.cost;
          address = e.link_data;
          edge = edge_of e m (vertex.Router g.0) (vertex.Router g.1) g.2 g.3;
          indices = x.1;
          unnumbered = x.2;
          subnet = w.0;
          beside = wire_is g.0 g.1 w.0 w.1;
        })
    edge_sound f e m (inl (inr g)) =
        let is : f ≡ Attachment g.0 g.1 = g.4 in
        subst (λ x. IsFailure A x) (sym is) (e.cost, e.link_data, edge_of e m (vertex.Router g.0) (vertex.Network g.1) g.2 g.3)
    edge_sound f e m (inr g) =
        let is : f ≡ Network g.1 = g.4 in
        subst (λ x. IsFailure A x) (sym is) (g.0, (e.cost, e.link_data, edge_of e m (vertex.Router g.0) (vertex.Network g.1) g.2 g.3))

    on_network : (router : RouterId) (n : ℕ) → IsOn A router n → (e : Edge) × Contains edges e × (e.from ≡ vertex.Router router) × (e.to ≡ vertex.Network n)
    on_network router n h =
        (record { to = vertex.Network n; from = vertex.Router router; cost = h.0; link_data = h.1 }, edge_in (vertex.Router router) (vertex.Network n) h.0 h.1 h.2, refl, refl)

    -- a failure of each kind but the last is among what the edges give
    edge_complete : (f : AreaFailure) → IsFailure A f → ((r : RouterId) → f ≡ Router r → ⊥) → Contains wires f ⊎ GivenBy (EdgeGiven wired) edges f
    edge_complete (Link a b subnet) (inl h) not = inl (wire_complete a b subnet h)
    edge_complete (Link a b subnet) (inr h) not =
        let e : Edge = record { to = vertex.Router b; from = vertex.Router a; cost = h.cost; link_data = h.address } in
        let m = edge_in (vertex.Router a) (vertex.Router b) h.cost h.address h.edge in
        let there = wired_to a b h.subnet (wire_complete a b h.subnet h.beside) in
        inr (e, m, inl (inl (inr (a, b, refl, refl, h.smaller, there, (subnet, h.indices, h.unnumbered, refl)))))
    edge_complete (fails.End a b subnet) h not = absurd h
    edge_complete (Stub r prefix) h not = absurd h
    edge_complete (Links a b) h not =
        let e : Edge = record { to = vertex.Router b; from = vertex.Router a; cost = h.1.0; link_data = h.1.1 } in
        let m = edge_in (vertex.Router a) (vertex.Router b) h.1.0 h.1.1 h.1.2 in
        let none : Contains wired (pair_code a.0 b.0) → ⊥ = λ there. (
        let w = wired_from a b (fits e m b refl) there in
        let is = wire_is a b w.0 w.1 in
        h.2 is.cost is.address w.0 is.edge is.shared) in
        inr (e, m, inl (inl (inl (a, b, refl, refl, h.0, none, refl))))
    edge_complete (Attachment router n) h not = let o = on_network router n h in inr (o.0, o.1, inl (inr (router, n, o.2, o.3, refl)))
    edge_complete (Network n) h not = let o = on_network h.0 n h.1 in inr (o.0, o.1, inr (h.0, n, o.2, o.3, refl))
    edge_complete (Router r) h not = absurd (not r refl)

module _ (lsas : List (List ℕ)) (edges : List Edge) (edges_are : IsEdgesOf (advertisements_of lsas) edges) (fit : AreFitEdges edges) (wires mid all : List AreaFailure)
    (wires_are : Adds (GivenBy (WireGiven (advertisements_of lsas)) edges) [] wires) (wired : List ℕ) (wired_are : Adds (GivenBy IsPairOf wires) [] wired)
    (mid_are : Adds (GivenBy (EdgeGiven wired) edges) wires mid) (all_are : Adds (GivenBy (λ lsa. RouterGiven (advertisement_of lsa)) lsas) mid all) where
  pub single_sound : (f : AreaFailure) → Contains all f → IsFailure (advertisements_of lsas) f
  unfolding advertisements_of
  single_sound f m =
      let A = map advertisement_of lsas in
      elim ((all_are f).0 m) [
        | inl in_mid ↦ elim ((mid_are f).0 in_mid) [
          | inl in_wires ↦ wire_sound A edges edges_are fit wires wires_are wired wired_are f in_wires
          | inr g ↦ edge_sound A edges edges_are fit wires wires_are wired wired_are f g.0 g.1 g.2
        ]
        | inr g ↦ listed_router (advertisement_of g.0) (member_to_map advertisement_of lsas g.0 g.1) g.2
      ]
    where
      listed_router : (x : Advertisement) → Contains (map advertisement_of lsas) x → RouterGiven x f → IsFailure (map advertisement_of lsas) f
      listed_router (router_lsa r links) at is = subst (λ y. IsFailure (map advertisement_of lsas) y) (sym is) (links, at)
      listed_router (network_lsa n r mask attached) at is = absurd is

  pub single_complete : (f : AreaFailure) → IsFailure (advertisements_of lsas) f → Contains all f
  unfolding advertisements_of
  single_complete f h = by_kind f h
    where
      others : (g : AreaFailure) → IsFailure (map advertisement_of lsas) g → ((r : RouterId) → g ≡ Router r → ⊥) → Contains all g
      others g is not =
          elim (edge_complete (map advertisement_of lsas) edges edges_are fit wires wires_are wired wired_are g is not) [
            | inl in_wires ↦ (all_are g).1 (inl ((mid_are g).1 (inl in_wires)))
            | inr given ↦ (all_are g).1 (inl ((mid_are g).1 (inr given)))
          ]

      by_kind : (g : AreaFailure) → IsFailure (map advertisement_of lsas) g → Contains all g
      by_kind (Link a b subnet) is = others (Link a b subnet) is (λ r e. cc)
      by_kind (fails.End a b subnet) is = absurd is
      by_kind (Stub r prefix) is = absurd is
      by_kind (Links a b) is = others (Links a b) is (λ r e. cc)
      by_kind (Attachment router n) is = others (Attachment router n) is (λ r e. cc)
      by_kind (Network n) is = others (Network n) is (λ r e. cc)
      by_kind (Router r) is =
          let m = member_of_map advertisement_of lsas (router_lsa r is.0) is.1 in
          (all_are (Router r)).1 (inr (m.0, m.1, subst (λ x. RouterGiven x (Router r)) (sym m.2) refl))
