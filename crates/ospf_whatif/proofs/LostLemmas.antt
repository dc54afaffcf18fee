-- What a failure takes of an area, by the edges and the ends about it.
use Rattle.std.proofs.Common.{◌≡◌, ◌⊎◌, ◌∙◌, ◌↔◌, ◌&&◌, ◌||◌, ◌++◌, ℕ, Bool, true, false, not, eqb, List, [], map, refl, sym, ap, subst, inl, inr, arith, bit_and}
use Rattle.std.proofs.lemmas.Bool.{and_from, and_parts, and_right, both_ways, eq-eqb, eqb-true, false_from_ne_true, not_from_false, not-true, or_cases, or_from, or_left, or_right}
use Rattle.std.proofs.lemmas.List.Elements.{Contains-append_cases, Contains-append_left, Contains-append_right}
use Rattle.std.specs.List.{Contains, filter}
use Rattle.std.specs.Prelude.{IfOk, IsTrue, Vec}
use Rattle.std.specs.declared.alloc.AllocError.{AllocError}
use Rattle.std.specs.declared.alloc.Global.{Global}
use Rattle.std.specs.declared.result.Result.{Result}
use Rattle.ospf_base.specs.Masks.{mask_of}
use Rattle.ospf_base.specs.Prefixes.{IsPrefixOf}
use Rattle.ospf_base.specs.declared.ids.RouterId.{RouterId}
use Rattle.ospf_base.specs.declared.prefix.Prefix.{Prefix}
use Rattle.ospf_base.proofs.PrefixLaws.{mask_injective, prefix_same}
use Rattle.ospf_lsa.specs.declared.link.Link.{Link}
use Rattle.ospf_lsa.specs.declared.link.LinkKind.{LinkKind}
use Rattle.ospf_lsa.specs.declared.link.LinkKind.TheVariants as kind
use Rattle.ospf_graph.specs.declared.edges.end.End.{End}
use Rattle.ospf_graph.specs.EdgeLists.Given.{AreEndsAt, IsEdgesOf}
use Rattle.ospf_graph.specs.EdgeLists.Near.{AreEdgesAt}
use Rattle.ospf_graph.specs.Advertisements.{Advertisement, router_lsa, HasLink, IsAddressOn, IsAttached, IsNetwork, transit_address}
use Rattle.ospf_graph.specs.Elsewhere.{Touches}
use Rattle.ospf_graph.specs.Graph.{IsEdge, IsEdgeBetween}
use Rattle.ospf_graph.specs.Routes.{IsEnd}
use Rattle.ospf_graph.specs.Search.{vertex_eq}
use Rattle.ospf_graph.specs.declared.graph.Edge.{Edge}
use Rattle.ospf_graph.specs.declared.graph.Vertex.{Vertex}
use Rattle.ospf_graph.specs.declared.graph.Vertex.TheVariants as vertex
use Rattle.ospf_graph.proofs.CandidateLemmas.{vertex_eq-refl, vertex_eq-same}
use Rattle.ospf_graph.proofs.ListLemmas.{bool_cases, member_to_map}
use Rattle.ospf_whatif.specs.Failure.{inner_of, is_of_subnet, is_stub_of, is_wire_end, kept_links, left_of_lsa, takes, without}
use Rattle.ospf_whatif.specs.Lost.{AreEdgesLost, AreEndsLost, AreStubsAt, AreStubsOf, IsTwoWay, Stays, centre_of}
use Rattle.ospf_whatif.specs.Outage.{AreLost, StandsIn}
use Rattle.ospf_whatif.specs.Subnets.{HaveSame}
use Rattle.ospf_whatif.specs.declared.failure.AreaFailure.{AreaFailure}
use Rattle.ospf_whatif.specs.declared.failure.AreaFailure.TheVariants as fails
use Rattle.ospf_whatif.proofs.LessLemmas.{On, address_stays, edge_from, kept_of, network_back, network_to, none_left, of_kept, router_back, transit_taken}
use Rattle.ospf_whatif.proofs.SubnetLemmas.{left_same}
use Rattle.ospf_whatif.proofs.WithoutLemmas.{IfOk-map}

-- ---- vertices

router_is : (q r : RouterId) → eqb q.0 r.0 ≡ true → vertex.Router q ≡ vertex.Router r
router_is q r t = let same : q.0 ≡ r.0 = eqb-true q.0 r.0 t in λ i. vertex.Router (record { 0 = same i })

is_router : (q r : RouterId) → vertex.Router q ≡ vertex.Router r → eqb q.0 r.0 ≡ true
is_router q r same = let one : q ≡ r = cc in eq-eqb q.0 r.0 (ap (λ (x : RouterId). x.0) one)

is_network : (n m : ℕ) → vertex.Network n ≡ vertex.Network m → eqb n m ≡ true
is_network n m same = let one : n ≡ m = cc in eq-eqb n m one

network_is : (n m : ℕ) → eqb n m ≡ true → vertex.Network n ≡ vertex.Network m
network_is n m t = ap (λ k. vertex.Network k) (eqb-true n m t)

apart : (r : RouterId) (n : ℕ) → vertex.Router r ≡ vertex.Network n → ⊥
apart r n same = cc

-- ---- what a failure takes of a link

abbrev to_router : RouterId → ℕ → ℕ → Link
to_router x link_data metric = record { id = x.0; link_data = link_data; kind = kind.PointToPoint; metric = metric }

abbrev to_network : ℕ → ℕ → ℕ → Link
to_network n link_data metric = record { id = n; link_data = link_data; kind = kind.Transit; metric = metric }

-- the two are these two, in either order
abbrev Pair : Vertex → Vertex → Vertex → Vertex → Type 0
Pair v w from to = ((from ≡ v) × (to ≡ w)) ⊎ ((from ≡ w) × (to ≡ v))

-- the failure may take a link from one vertex to the other
abbrev MayCut : AreaFailure → Vertex → Vertex → Type 0
MayCut (fails.Link a b subnet) from to = Pair (vertex.Router a) (vertex.Router b) from to
MayCut (fails.End a b subnet) from to = Pair (vertex.Router a) (vertex.Router b) from to
MayCut (fails.Links a b) from to = Pair (vertex.Router a) (vertex.Router b) from to
MayCut (fails.Attachment r n) from to = Pair (vertex.Router r) (vertex.Network n) from to
MayCut (fails.Network n) from to = (from ≡ vertex.Network n) ⊎ (to ≡ vertex.Network n)
MayCut (fails.Router r) from to = (from ≡ vertex.Router r) ⊎ (to ≡ vertex.Router r)
MayCut (fails.Stub r p) from to = ⊥

pair_back : (v w from to : Vertex) → Pair v w to from → Pair v w from to
pair_back v w from to (inl p) = inr (p.1, p.0)
pair_back v w from to (inr p) = inl (p.1, p.0)

cut_back : (f : AreaFailure) (from to : Vertex) → MayCut f to from → MayCut f from to
cut_back (fails.Link a b subnet) from to p = pair_back (vertex.Router a) (vertex.Router b) from to p
cut_back (fails.End a b subnet) from to p = pair_back (vertex.Router a) (vertex.Router b) from to p
cut_back (fails.Links a b) from to p = pair_back (vertex.Router a) (vertex.Router b) from to p
cut_back (fails.Attachment r n) from to p = pair_back (vertex.Router r) (vertex.Network n) from to p
cut_back (fails.Network n) from to p = elim p [ inl t ↦ inr t | inr s ↦ inl s ]
cut_back (fails.Router r) from to p = elim p [ inl t ↦ inr t | inr s ↦ inl s ]
cut_back (fails.Stub r q) from to p = p

-- it touches the centre
cut_near : (f : AreaFailure) (e : Edge) → MayCut f e.from e.to → Touches (centre_of f) e
cut_near (fails.Link a b subnet) e p = elim p [ inl w ↦ inl w.0 | inr w ↦ inr w.1 ]
cut_near (fails.End a b subnet) e p = elim p [ inl w ↦ inl w.0 | inr w ↦ inr w.1 ]
cut_near (fails.Links a b) e p = elim p [ inl w ↦ inl w.0 | inr w ↦ inr w.1 ]
cut_near (fails.Attachment r n) e p = elim p [ inl w ↦ inl w.0 | inr w ↦ inr w.1 ]
cut_near (fails.Network n) e p = p
cut_near (fails.Router r) e p = p
cut_near (fails.Stub r q) e p = absurd p

module _ (inner : List Link) (x b : RouterId) (subnet : Prefix) (link_data metric : ℕ) where
  wire_end : is_wire_end inner (to_router x link_data metric) b subnet ≡ true → (vertex.Router x ≡ vertex.Router b) × (is_of_subnet inner subnet link_data ≡ true)
  wire_end t =
      elim (or_cases (eqb x.0 b.0 && is_of_subnet inner subnet link_data) false t) [
        | inl both ↦ (let w = and_parts (eqb x.0 b.0) (is_of_subnet inner subnet link_data) both in (router_is x b w.0, w.1))
        | inr never ↦ absurd (cc)
      ]

  end_of_wire : vertex.Router x ≡ vertex.Router b → is_of_subnet inner subnet link_data ≡ true → is_wire_end inner (to_router x link_data metric) b subnet ≡ true
  end_of_wire same held = or_left (eqb x.0 b.0 && is_of_subnet inner subnet link_data) false (and_from (eqb x.0 b.0) (is_of_subnet inner subnet link_data) (is_router x b same) held)

module _ (inner : List Link) (a b : RouterId) (subnet : Prefix) (r x : RouterId) (link_data metric : ℕ) where
  wire_taken : takes inner (fails.Link a b subnet) r (to_router x link_data metric) ≡ true
      → Pair (vertex.Router a) (vertex.Router b) (vertex.Router r) (vertex.Router x) × (is_of_subnet inner subnet link_data ≡ true)
  wire_taken t =
      let l = to_router x link_data metric in
      elim (or_cases (eqb r.0 a.0 && is_wire_end inner l b subnet) (eqb r.0 b.0 && is_wire_end inner l a subnet) t) [
        | inl p ↦ (let w = and_parts (eqb r.0 a.0) (is_wire_end inner l b subnet) p in let y = wire_end inner x b subnet link_data metric w.1 in (inl (router_is r a w.0, y.0), y.1))
        | inr p ↦ (let w = and_parts (eqb r.0 b.0) (is_wire_end inner l a subnet) p in let y = wire_end inner x a subnet link_data metric w.1 in (inr (router_is r b w.0, y.0), y.1))
      ]

  taken_wire : Pair (vertex.Router a) (vertex.Router b) (vertex.Router r) (vertex.Router x) → is_of_subnet inner subnet link_data ≡ true
      → takes inner (fails.Link a b subnet) r (to_router x link_data metric) ≡ true
  taken_wire (inl p) held =
      let l = to_router x link_data metric in
      or_left _ _ (and_from (eqb r.0 a.0) (is_wire_end inner l b subnet) (is_router r a p.0) (end_of_wire inner x b subnet link_data metric p.1 held))
  taken_wire (inr p) held =
      let l = to_router x link_data metric in
      or_right _ _ (and_from (eqb r.0 b.0) (is_wire_end inner l a subnet) (is_router r b p.0) (end_of_wire inner x a subnet link_data metric p.1 held))

or_false : (b : Bool) → b || false ≡ b
or_false true = refl
or_false false = refl

-- of the links between the two routers one end of a link takes what the link takes
end_as_link : (inner : List Link) (a b : RouterId) (subnet : Prefix) (r x : RouterId) (link_data metric : ℕ)
    → takes inner (fails.End a b subnet) r (to_router x link_data metric) ≡ takes inner (fails.Link a b subnet) r (to_router x link_data metric)
end_as_link inner a b subnet r x link_data metric =
    let l = to_router x link_data metric in
    ap (λ (w : Bool). (eqb r.0 a.0 && is_wire_end inner l b subnet) || (eqb r.0 b.0 && w)) (sym (or_false (eqb x.0 a.0 && is_of_subnet inner subnet link_data)))

-- a link to a router that a failure takes
router_cut : (inner : List Link) (f : AreaFailure) (r x : RouterId) (link_data metric : ℕ) → takes inner f r (to_router x link_data metric) ≡ true
    → MayCut f (vertex.Router r) (vertex.Router x)
router_cut inner (fails.Link a b subnet) r x link_data metric t = (wire_taken inner a b subnet r x link_data metric t).0
router_cut inner (fails.End a b subnet) r x link_data metric t = (wire_taken inner a b subnet r x link_data metric (sym (end_as_link inner a b subnet r x link_data metric) ∙ t)).0
router_cut inner (fails.Links a b) r x link_data metric t =
    elim (or_cases (eqb r.0 a.0 && eqb x.0 b.0) (eqb r.0 b.0 && eqb x.0 a.0) t) [
      | inl p ↦ (let w = and_parts (eqb r.0 a.0) (eqb x.0 b.0) p in inl (router_is r a w.0, router_is x b w.1))
      | inr p ↦ (let w = and_parts (eqb r.0 b.0) (eqb x.0 a.0) p in inr (router_is r b w.0, router_is x a w.1))
    ]
router_cut inner (fails.Attachment q n) r x link_data metric t = absurd (let w = and_parts (eqb r.0 q.0) false t in let no : false ≡ true = w.1 in cc)
router_cut inner (fails.Network n) r x link_data metric t = absurd (cc)
router_cut inner (fails.Router gone) r x link_data metric t =
    elim (or_cases (eqb r.0 gone.0) (eqb x.0 gone.0) t) [ inl p ↦ inl (router_is r gone p) | inr p ↦ inr (router_is x gone p) ]
router_cut inner (fails.Stub q p) r x link_data metric t = let w = and_parts (eqb r.0 q.0) false t in let no : false ≡ true = w.1 in absurd (cc)

neither : (a b r : RouterId) → ((eqb r.0 a.0 && false) || (eqb r.0 b.0 && false)) ≡ true → ⊥
neither a b r t =
    let no : (q : RouterId) → (eqb r.0 q.0 && false) ≡ false = λ q. and_right (eqb r.0 q.0) false refl in
    both_ways _ (or_from _ _ (no a) (no b)) t

-- those of a router to a transit network
network_cut : (inner : List Link) (f : AreaFailure) (r : RouterId) (n : ℕ) → On inner f r n ≡ true → MayCut f (vertex.Router r) (vertex.Network n)
network_cut inner (fails.Link a b subnet) r n t = absurd (neither a b r t)
network_cut inner (fails.End a b subnet) r n t = absurd (neither a b r t)
network_cut inner (fails.Links a b) r n t = absurd (neither a b r t)
network_cut inner (fails.Attachment q m) r n t = let w = and_parts (eqb r.0 q.0) (eqb n m) t in inl (router_is r q w.0, network_is n m w.1)
network_cut inner (fails.Network m) r n t = inr (network_is n m t)
network_cut inner (fails.Router gone) r n t = elim (or_cases (eqb r.0 gone.0) false t) [ inl p ↦ inl (router_is r gone p) | inr never ↦ absurd (cc) ]
network_cut inner (fails.Stub q p) r n t = let w = and_parts (eqb r.0 q.0) false t in let no : false ≡ true = w.1 in absurd (cc)

-- a failure of no single link takes all that it may
abbrev IsWhole : AreaFailure → Type 0
IsWhole (fails.Link a b subnet) = ⊥
IsWhole (fails.End a b subnet) = ⊥
IsWhole (fails.Links a b) = Unit
IsWhole (fails.Attachment r n) = Unit
IsWhole (fails.Network n) = Unit
IsWhole (fails.Router r) = Unit
IsWhole (fails.Stub r p) = Unit

cut_router : (inner : List Link) (f : AreaFailure) (r x : RouterId) (link_data metric : ℕ) → IsWhole f → MayCut f (vertex.Router r) (vertex.Router x)
    → takes inner f r (to_router x link_data metric) ≡ true
cut_router inner (fails.Link a b subnet) r x link_data metric whole p = absurd whole
cut_router inner (fails.End a b subnet) r x link_data metric whole p = absurd whole
cut_router inner (fails.Links a b) r x link_data metric whole (inl p) = or_left _ _ (and_from (eqb r.0 a.0) (eqb x.0 b.0) (is_router r a p.0) (is_router x b p.1))
cut_router inner (fails.Links a b) r x link_data metric whole (inr p) = or_right _ _ (and_from (eqb r.0 b.0) (eqb x.0 a.0) (is_router r b p.0) (is_router x a p.1))
cut_router inner (fails.Attachment q n) r x link_data metric whole (inl p) = absurd (apart x n p.1)
cut_router inner (fails.Attachment q n) r x link_data metric whole (inr p) = absurd (apart r n p.0)
cut_router inner (fails.Network n) r x link_data metric whole (inl p) = absurd (apart r n p)
cut_router inner (fails.Network n) r x link_data metric whole (inr p) = absurd (apart x n p)
cut_router inner (fails.Router gone) r x link_data metric whole (inl p) = or_left _ _ (is_router r gone p)
cut_router inner (fails.Router gone) r x link_data metric whole (inr p) = or_right _ _ (is_router x gone p)
cut_router inner (fails.Stub q p) r x link_data metric whole never = absurd never

cut_network : (inner : List Link) (f : AreaFailure) (r : RouterId) (n : ℕ) → MayCut f (vertex.Router r) (vertex.Network n) → On inner f r n ≡ true
cut_network inner (fails.Link a b subnet) r n (inl p) = absurd (apart b n (sym p.1))
cut_network inner (fails.Link a b subnet) r n (inr p) = absurd (apart a n (sym p.1))
cut_network inner (fails.End a b subnet) r n (inl p) = absurd (apart b n (sym p.1))
cut_network inner (fails.End a b subnet) r n (inr p) = absurd (apart a n (sym p.1))
cut_network inner (fails.Links a b) r n (inl p) = absurd (apart b n (sym p.1))
cut_network inner (fails.Links a b) r n (inr p) = absurd (apart a n (sym p.1))
cut_network inner (fails.Attachment q m) r n (inl p) = and_from (eqb r.0 q.0) (eqb n m) (is_router r q p.0) (is_network n m p.1)
cut_network inner (fails.Attachment q m) r n (inr p) = absurd (apart r m p.0)
cut_network inner (fails.Network m) r n (inl p) = absurd (apart r m p)
cut_network inner (fails.Network m) r n (inr p) = is_network n m p
cut_network inner (fails.Router gone) r n (inl p) = or_left _ _ (is_router r gone p)
cut_network inner (fails.Router gone) r n (inr p) = absurd (apart gone n (sym p))
cut_network inner (fails.Stub q p) r n never = absurd never

-- ---- what an area has after it

module _ (inner : List Link) (f : AreaFailure) (A : List Advertisement) where
  abbrev B : List Advertisement
  B = map (left_of_lsa inner f) A

  link_stays : (r : RouterId) (k : LinkKind) (id link_data metric : ℕ) → HasLink A r k id link_data metric
      → takes inner f r (record { id = id; link_data = link_data; kind = k; metric = metric }) ≡ false → HasLink B r k id link_data metric
  link_stays r k id link_data metric h free =
      let link : Link = record { id = id; link_data = link_data; kind = k; metric = metric } in
      record {
        links = kept_links inner f r h.links;
        listed = member_to_map (left_of_lsa inner f) A (router_lsa r h.links) h.listed;
        link_in = of_kept (λ (l : Link). not (takes inner f r l)) h.links link h.link_in (not_from_false _ free);
      }

  link_free : (r : RouterId) (k : LinkKind) (id link_data metric : ℕ) → HasLink B r k id link_data metric
      → takes inner f r (record { id = id; link_data = link_data; kind = k; metric = metric }) ≡ false
  link_free r k id link_data metric h =
      let x = router_back inner f A r h.links h.listed in
      let link : Link = record { id = id; link_data = link_data; kind = k; metric = metric } in
      not-true _ (kept_of (λ (l : Link). not (takes inner f r l)) x.0 link (subst (λ (ls : List Link). Contains ls link) (sym x.2) h.link_in)).1

  network_stays : (n mask : ℕ) (attached : List RouterId) → IsNetwork A n mask attached → IsNetwork B n mask attached
  network_stays n mask attached h =
      record {
        router = h.router;
        listed = network_to inner f A n _ _ _ h.listed;
        largest = λ q m others in_b. h.largest q m others (network_back inner f A n q m others in_b);
      }

  attached_stays : (n : ℕ) (r : RouterId) → IsAttached A n r → IsAttached B n r
  attached_stays n r h = record { mask = h.mask; attached = h.attached; names = h.names; network = network_stays n h.mask h.attached h.network }

  address_on : (n : ℕ) (r : RouterId) (address : ℕ) → IsAddressOn A n r address → On inner f r n ≡ false → IsAddressOn B n r address
  address_on n r address h free =
      record {
        links = kept_links inner f r h.links;
        listed = member_to_map (left_of_lsa inner f) A (router_lsa r h.links) h.listed;
        first = address_stays inner f r n free h.links ∙ h.first;
      }

  address_free : (n : ℕ) (r : RouterId) (address : ℕ) → IsAddressOn B n r address → On inner f r n ≡ false
  address_free n r address h =
      let x = router_back inner f A r h.links h.listed in
      elim (bool_cases (On inner f r n)) [
        | inl all ↦ absurd (let none = none_left inner f r n all x.0 in let same = ap (λ ls. transit_address n ls) x.2 in let here = h.first in cc)
        | inr free ↦ free
      ]

  transit_is : (r : RouterId) (n link_data metric : ℕ) → takes inner f r (to_network n link_data metric) ≡ On inner f r n
  transit_is r n link_data metric = transit_taken inner f r n n link_data metric kind.Transit (eq-eqb n n refl)

  -- an edge that the failure takes, or one that stays
  pub cut_or : (from to : Vertex) (cost link_data : ℕ) → IsEdgeBetween A from to cost link_data → MayCut f from to ⊎ IsEdgeBetween B from to cost link_data
  cut_or (vertex.Router a) (vertex.Router b) cost link_data e =
      elim (bool_cases (takes inner f a (to_router b link_data cost))) [
        | inl goes ↦ inl (router_cut inner f a b link_data cost goes)
        | inr stays ↦ elim (bool_cases (takes inner f b (to_router a e.1 e.2))) [
          | inl back ↦ inl (cut_back f (vertex.Router a) (vertex.Router b) (router_cut inner f b a e.1 e.2 back))
          | inr free ↦ inr (link_stays a kind.PointToPoint b.0 link_data cost e.0 stays, e.1, e.2, link_stays b kind.PointToPoint a.0 e.1 e.2 e.3 free)
        ]
      ]
  cut_or (vertex.Router a) (vertex.Network n) cost link_data e =
      elim (bool_cases (On inner f a n)) [
        | inl goes ↦ inl (network_cut inner f a n goes)
        | inr free ↦ inr (link_stays a kind.Transit n link_data cost e.0 (transit_is a n link_data cost ∙ free), attached_stays n a e.1)
      ]
  cut_or (vertex.Network n) (vertex.Router b) cost link_data e =
      elim (bool_cases (On inner f b n)) [
        | inl goes ↦ inl (cut_back f (vertex.Network n) (vertex.Router b) (network_cut inner f b n goes))
        | inr free ↦ inr (e.0, address_on n b link_data e.1 free, attached_stays n b e.2)
      ]
  cut_or (vertex.Network n) (vertex.Network m) cost link_data e = absurd e

  -- an edge that stays is not taken
  cut_goes : IsWhole f → (from to : Vertex) (cost link_data : ℕ) → MayCut f from to → IsEdgeBetween B from to cost link_data → ⊥
  cut_goes whole (vertex.Router a) (vertex.Router b) cost link_data cut e =
      let free = link_free a kind.PointToPoint b.0 link_data cost e.0 in
      let goes = cut_router inner f a b link_data cost whole cut in
      both_ways _ free goes
  cut_goes whole (vertex.Router a) (vertex.Network n) cost link_data cut e =
      both_ways _ (sym (transit_is a n link_data cost) ∙ link_free a kind.Transit n link_data cost e.0) (cut_network inner f a n cut)
  cut_goes whole (vertex.Network n) (vertex.Router b) cost link_data cut e =
      both_ways _ (address_free n b link_data e.1) (cut_network inner f b n (cut_back f (vertex.Router b) (vertex.Network n) cut))
  cut_goes whole (vertex.Network n) (vertex.Network m) cost link_data cut e = e

-- ---- a point-to-point link, or an end of it

-- the failure takes the links between the two routers that their link in the subnet takes, and none to a network
record IsOfWire (inner : List Link) (a b : RouterId) (subnet : Prefix) (F : AreaFailure) : Type 0 where
  as_link : (r x : RouterId) (link_data metric : ℕ) → takes inner F r (to_router x link_data metric) ≡ takes inner (fails.Link a b subnet) r (to_router x link_data metric)
  between : (from to : Vertex) → MayCut F from to → Pair (vertex.Router a) (vertex.Router b) from to

link_of_wire : (inner : List Link) (a b : RouterId) (subnet : Prefix) → IsOfWire inner a b subnet (fails.Link a b subnet)
link_of_wire inner a b subnet = record { as_link = λ r x link_data metric. refl; between = λ from to p. p }

end_of_link : (inner : List Link) (a b : RouterId) (subnet : Prefix) → IsOfWire inner a b subnet (fails.End a b subnet)
end_of_link inner a b subnet = record { as_link = end_as_link inner a b subnet; between = λ from to p. p }

module _ (inner : List Link) (a b : RouterId) (subnet : Prefix) (F : AreaFailure) (of : IsOfWire inner a b subnet F) (A : List Advertisement) (near : List Edge)
    (at : AreEdgesAt A (vertex.Router a) near) where
  F_taken : (r x : RouterId) (link_data metric : ℕ) → takes inner F r (to_router x link_data metric) ≡ true
      → Pair (vertex.Router a) (vertex.Router b) (vertex.Router r) (vertex.Router x) × (is_of_subnet inner subnet link_data ≡ true)
  F_taken r x link_data metric t = wire_taken inner a b subnet r x link_data metric (sym (of.as_link r x link_data metric) ∙ t)

  taken_F : (r x : RouterId) (link_data metric : ℕ) → Pair (vertex.Router a) (vertex.Router b) (vertex.Router r) (vertex.Router x) → is_of_subnet inner subnet link_data ≡ true
      → takes inner F r (to_router x link_data metric) ≡ true
  taken_F r x link_data metric p held = of.as_link r x link_data metric ∙ taken_wire inner a b subnet r x link_data metric p held

  abbrev edge : RouterId → RouterId → ℕ → ℕ → Edge
  edge x y cost link_data = record { from = vertex.Router x; to = vertex.Router y; cost = cost; link_data = link_data }

  wire_kept : (x y : RouterId) (cost link_data : ℕ) → IsEdge A (edge x y cost link_data)
      → (Pair (vertex.Router a) (vertex.Router b) (vertex.Router x) (vertex.Router y) → IsTwoWay inner near subnet (edge x y cost link_data))
      → IsEdge (B inner F A) (edge x y cost link_data)
  wire_kept x y cost link_data e apart =
      let there : takes inner F x (to_router y link_data cost) ≡ false =
      false_from_ne_true _ (λ t. let w = F_taken x y link_data cost t in both_ways _ (apart w.0).0 w.1) in
      let out = link_stays inner F A x kind.PointToPoint y.0 link_data cost e.0 there in
      elim (bool_cases (takes inner F y (to_router x e.1 e.2))) [
        | inr free ↦ (out, e.1, e.2, link_stays inner F A y kind.PointToPoint x.0 e.1 e.2 e.3 free)
        | inl t ↦
            let w = F_taken y x e.1 e.2 t in
            let h = (apart (pair_back (vertex.Router a) (vertex.Router b) (vertex.Router x) (vertex.Router y) w.0)).1 in
            let back : Edge = h.1 in
            let is : IsEdge A back = ((at back).0 (h.0, h.2, h.3)).0 in
            let over : IsEdgeBetween A (vertex.Router y) (vertex.Router x) back.cost back.link_data =
            subst (λ v. IsEdgeBetween A (vertex.Router y) v back.cost back.link_data) h.4.1 (subst (λ v. IsEdgeBetween A v back.to back.cost back.link_data) h.4.0 is) in
            let free : takes inner F y (to_router x back.link_data back.cost) ≡ false =
            false_from_ne_true _ (λ t. both_ways _ h.4.2 (F_taken y x back.link_data back.cost t).1) in
            (out, back.link_data, back.cost, link_stays inner F A y kind.PointToPoint x.0 back.link_data back.cost over.0 free)
      ]

  kept_wire : (x y : RouterId) (cost link_data : ℕ) → IsEdge (B inner F A) (edge x y cost link_data)
      → Pair (vertex.Router a) (vertex.Router b) (vertex.Router x) (vertex.Router y) → IsTwoWay inner near subnet (edge x y cost link_data)
  kept_wire x y cost link_data e pair =
      let back : Edge = edge y x e.2 e.1 in
      let turned : Pair (vertex.Router a) (vertex.Router b) (vertex.Router y) (vertex.Router x) = pair_back (vertex.Router a) (vertex.Router b) (vertex.Router y) (vertex.Router x) pair in
      let is : IsEdge A back = edge_from inner F A (vertex.Router y) (vertex.Router x) e.2 e.1 (e.3, link_data, cost, e.0) in
      let m : Contains near back = (at back).1 (is, elim turned [ inl w ↦ inl w.0 | inr w ↦ inr w.1 ]) in (
        false_from_ne_true _ (λ held. both_ways _ (link_free inner F A x kind.PointToPoint y.0 link_data cost e.0) (taken_F x y link_data cost pair held)),
        (
          m.0,
          back,
          m.1,
          m.2,
          (refl, refl, false_from_ne_true _ (λ held. both_ways _ (link_free inner F A y kind.PointToPoint x.0 e.1 e.2 e.3) (taken_F y x e.1 e.2 turned held))),
        ),
      )

  -- other edges
  no_pair : (r : RouterId) (n : ℕ) → Pair (vertex.Router a) (vertex.Router b) (vertex.Router r) (vertex.Network n) → ⊥
  no_pair r n (inl p) = apart b n (sym p.1)
  no_pair r n (inr p) = apart a n (sym p.1)

  no_wire : (r : RouterId) (n : ℕ) → MayCut F (vertex.Router r) (vertex.Network n) → ⊥
  no_wire r n cut = no_pair r n (of.between (vertex.Router r) (vertex.Network n) cut)

  stays_at : (from to : Vertex) (cost link_data : ℕ) → IsEdgeBetween A from to cost link_data
      → (Pair (vertex.Router a) (vertex.Router b) from to → IsTwoWay inner near subnet (record { from = from; to = to; cost = cost; link_data = link_data }))
      → IsEdgeBetween (B inner F A) from to cost link_data
  stays_at (vertex.Router x) (vertex.Router y) cost link_data e stays = wire_kept x y cost link_data e stays
  stays_at (vertex.Router x) (vertex.Network n) cost link_data e stays = elim (cut_or inner F A (vertex.Router x) (vertex.Network n) cost link_data e) [ inl cut ↦ absurd (no_wire x n cut) | inr left ↦ left ]
  stays_at (vertex.Network n) (vertex.Router y) cost link_data e stays =
      elim (cut_or inner F A (vertex.Network n) (vertex.Router y) cost link_data e) [ inl cut ↦ absurd (no_wire y n (cut_back F (vertex.Router y) (vertex.Network n) cut)) | inr left ↦ left ]
  stays_at (vertex.Network n) (vertex.Network m) cost link_data e stays = absurd e

  at_stays : (from to : Vertex) (cost link_data : ℕ) → IsEdgeBetween (B inner F A) from to cost link_data
      → Pair (vertex.Router a) (vertex.Router b) from to → IsTwoWay inner near subnet (record { from = from; to = to; cost = cost; link_data = link_data })
  at_stays (vertex.Router x) (vertex.Router y) cost link_data e pair = kept_wire x y cost link_data e pair
  at_stays (vertex.Router x) (vertex.Network n) cost link_data e pair = absurd (no_pair x n pair)
  at_stays (vertex.Network n) (vertex.Router y) cost link_data e pair = absurd (no_pair y n (pair_back (vertex.Router a) (vertex.Router b) (vertex.Router y) (vertex.Network n) pair))
  at_stays (vertex.Network n) (vertex.Network m) cost link_data e pair = absurd e

-- ---- edges at the centre

module _ (inner : List Link) (A : List Advertisement) (near : List Edge) (e : Edge) where
  stays_kept : (f : AreaFailure) → AreEdgesAt A (centre_of f) near → IsEdge A e → Stays f inner near e → IsEdge (B inner f A) e
  stays_kept (fails.Link a b subnet) at there stays = stays_at inner a b subnet (fails.Link a b subnet) (link_of_wire inner a b subnet) A near at e.from e.to e.cost e.link_data there stays
  stays_kept (fails.End a b subnet) at there stays = stays_at inner a b subnet (fails.End a b subnet) (end_of_link inner a b subnet) A near at e.from e.to e.cost e.link_data there stays
  stays_kept (fails.Links a b) at there stays = elim (cut_or inner (fails.Links a b) A e.from e.to e.cost e.link_data there) [ inl cut ↦ absurd (stays cut) | inr left ↦ left ]
  stays_kept (fails.Attachment r n) at there stays = elim (cut_or inner (fails.Attachment r n) A e.from e.to e.cost e.link_data there) [ inl cut ↦ absurd (stays cut) | inr left ↦ left ]
  stays_kept (fails.Network n) at there stays = absurd stays
  stays_kept (fails.Router gone) at there stays = absurd stays
  stays_kept (fails.Stub r p) at there stays = elim (cut_or inner (fails.Stub r p) A e.from e.to e.cost e.link_data there) [ inl cut ↦ absurd cut | inr left ↦ left ]

  kept_stays : (f : AreaFailure) → AreEdgesAt A (centre_of f) near → Touches (centre_of f) e → IsEdge (B inner f A) e → Stays f inner near e
  kept_stays (fails.Link a b subnet) at touches left = at_stays inner a b subnet (fails.Link a b subnet) (link_of_wire inner a b subnet) A near at e.from e.to e.cost e.link_data left
  kept_stays (fails.End a b subnet) at touches left = at_stays inner a b subnet (fails.End a b subnet) (end_of_link inner a b subnet) A near at e.from e.to e.cost e.link_data left
  kept_stays (fails.Links a b) at touches left = λ cut. cut_goes inner (fails.Links a b) A tt e.from e.to e.cost e.link_data cut left
  kept_stays (fails.Attachment r n) at touches left = λ cut. cut_goes inner (fails.Attachment r n) A tt e.from e.to e.cost e.link_data cut left
  kept_stays (fails.Network n) at touches left = cut_goes inner (fails.Network n) A tt e.from e.to e.cost e.link_data touches left
  kept_stays (fails.Router gone) at touches left = cut_goes inner (fails.Router gone) A tt e.from e.to e.cost e.link_data touches left
  kept_stays (fails.Stub r p) at touches left = tt

-- those that do not stay are all that are lost
edges_are_lost : (inner : List Link) (f : AreaFailure) (A : List Advertisement) (near lost : List Edge) → AreEdgesAt A (centre_of f) near
    → AreLost (Contains near) (Stays f inner near) lost → AreLost (IsEdge A) (IsEdge (B inner f A)) lost
edges_are_lost inner f A near lost at are = record {
  within = λ e m. let w = are.within e m in let is = (at e).0 w.0 in (is.0, (λ left. w.1 (kept_stays inner A near e f at is.1 left)));
  all = λ e there. elim (cut_or inner f A e.from e.to e.cost e.link_data there) [
    | inr left ↦ inr left
    | inl cut ↦ elim (are.all e ((at e).1 (there, cut_near f e cut))) [ inl gone ↦ inl gone | inr stays ↦ inr (stays_kept inner A near e f at there stays) ]
  ];
}

pub going_are_lost : (found_inner : List Link) (f : AreaFailure) (A : List Advertisement) (near seen : List Edge) (inner : List Link) (found : Result (Vec Edge Global) AllocError)
    → HaveSame found_inner (inner_of f A) → inner ≡ found_inner → seen ≡ near → AreEdgesAt A (centre_of f) near
    → IfOk found (λ lost. AreLost (Contains seen) (Stays f inner seen) lost.items) → IfOk found (λ lost. AreEdgesLost A f lost.items)
unfolding without
going_are_lost found_inner f A near seen inner found all is same at going =
    IfOk-map found _ _ going
    (λ v are.
    subst (λ (left : List Advertisement). AreLost (IsEdge A) (IsEdge left) v.items) (left_same found_inner (inner_of f A) f all A)
    (edges_are_lost found_inner f A near v.items at
    (subst (λ (l : List Edge). AreLost (Contains l) (Stays f found_inner l) v.items) same
    (subst (λ (s : List Link). AreLost (Contains seen) (Stays f s seen) v.items) is are))))

-- ---- ends

abbrev stub : ℕ → ℕ → ℕ → Link
stub id mask metric = record { id = id; link_data = mask; kind = kind.Stub; metric = metric }

module _ (p subnet : Prefix) (id mask metric : ℕ) (of : IsPrefixOf id mask p) where
  stub_is : is_stub_of (stub id mask metric) subnet ≡ true → p ≡ subnet
  stub_is t =
      let w = and_parts (eqb mask (mask_of subnet.length)) (eqb (bit_and id (mask_of subnet.length)) subnet.address.0) t in
      let same : mask ≡ mask_of subnet.length = eqb-true _ _ w.0 in
      let address : p.address.0 ≡ subnet.address.0 = of.masked ∙ ap (λ m. bit_and id m) same ∙ eqb-true _ _ w.1 in
      prefix_same p subnet address (mask_injective p.length subnet.length p.short subnet.short (sym of.mask_is ∙ same))

  is_stub : p ≡ subnet → is_stub_of (stub id mask metric) subnet ≡ true
  is_stub same =
      let masks : mask ≡ mask_of subnet.length = of.mask_is ∙ ap (λ (q : Prefix). mask_of q.length) same in
      let address : bit_and id (mask_of subnet.length) ≡ subnet.address.0 = ap (λ m. bit_and id m) (sym masks) ∙ sym of.masked ∙ ap (λ (q : Prefix). q.address.0) same in
      and_from _ _ (eq-eqb _ _ masks) (eq-eqb _ _ address)

-- the failure takes the end of the prefix at the vertex
abbrev LosesEnd : AreaFailure → Prefix → Vertex → Type 0
LosesEnd (fails.Link a b subnet) p v = (p ≡ subnet) × ((v ≡ vertex.Router a) ⊎ (v ≡ vertex.Router b))
LosesEnd (fails.End a b subnet) p v = (p ≡ subnet) × (v ≡ vertex.Router a)
LosesEnd (fails.Links a b) p v = ⊥
LosesEnd (fails.Attachment r n) p v = ⊥
LosesEnd (fails.Network n) p v = ⊥
LosesEnd (fails.Router gone) p v = v ≡ vertex.Router gone
LosesEnd (fails.Stub r subnet) p v = (p ≡ subnet) × (v ≡ vertex.Router r)

module _ (inner : List Link) (r : RouterId) (p : Prefix) (id mask metric : ℕ) (of : IsPrefixOf id mask p) where
  stub_lost : (f : AreaFailure) → takes inner f r (stub id mask metric) ≡ true → LosesEnd f p (vertex.Router r)
  stub_lost (fails.Link a b subnet) t =
      let is = is_stub_of (stub id mask metric) subnet in
      elim (or_cases (eqb r.0 a.0 && is) (eqb r.0 b.0 && is) t) [
        | inl u ↦ (let w = and_parts (eqb r.0 a.0) is u in (stub_is p subnet id mask metric of w.1, inl (router_is r a w.0)))
        | inr u ↦ (let w = and_parts (eqb r.0 b.0) is u in (stub_is p subnet id mask metric of w.1, inr (router_is r b w.0)))
      ]
  stub_lost (fails.End a b subnet) t =
      let is = is_stub_of (stub id mask metric) subnet in
      elim (or_cases (eqb r.0 a.0 && is) (eqb r.0 b.0 && false) t) [
        | inl u ↦ (let w = and_parts (eqb r.0 a.0) is u in (stub_is p subnet id mask metric of w.1, router_is r a w.0))
        | inr u ↦ absurd (let w = and_parts (eqb r.0 b.0) false u in let no : false ≡ true = w.1 in cc)
      ]
  stub_lost (fails.Links a b) t = neither a b r t
  stub_lost (fails.Attachment q n) t = let w = and_parts (eqb r.0 q.0) false t in let no : false ≡ true = w.1 in absurd (cc)
  stub_lost (fails.Network n) t = absurd (cc)
  stub_lost (fails.Router gone) t = elim (or_cases (eqb r.0 gone.0) false t) [ inl u ↦ router_is r gone u | inr never ↦ absurd (cc) ]
  stub_lost (fails.Stub q subnet) t =
      let w = and_parts (eqb r.0 q.0) (is_stub_of (stub id mask metric) subnet) t in
      (stub_is p subnet id mask metric of w.1, router_is r q w.0)

  lost_stub : (f : AreaFailure) → LosesEnd f p (vertex.Router r) → takes inner f r (stub id mask metric) ≡ true
  lost_stub (fails.Link a b subnet) lost =
      let is : is_stub_of (stub id mask metric) subnet ≡ true = is_stub p subnet id mask metric of lost.0 in
      elim lost.1 [
        | inl same ↦ or_left _ _ (and_from _ _ (is_router r a same) is)
        | inr same ↦ or_right _ _ (and_from _ _ (is_router r b same) is)
      ]
  lost_stub (fails.End a b subnet) lost = or_left _ _ (and_from _ _ (is_router r a lost.1) (is_stub p subnet id mask metric of lost.0))
  lost_stub (fails.Links a b) lost = absurd lost
  lost_stub (fails.Attachment q n) lost = absurd lost
  lost_stub (fails.Network n) lost = absurd lost
  lost_stub (fails.Router gone) lost = or_left _ _ (is_router r gone lost)
  lost_stub (fails.Stub q subnet) lost = and_from _ _ (is_router r q lost.1) (is_stub p subnet id mask metric of lost.0)

no_network_end : (f : AreaFailure) (p : Prefix) (n : ℕ) → LosesEnd f p (vertex.Network n) → ⊥
no_network_end (fails.Link a b subnet) p n lost = elim lost.1 [ inl same ↦ apart a n (sym same) | inr same ↦ apart b n (sym same) ]
no_network_end (fails.End a b subnet) p n lost = apart a n (sym lost.1)
no_network_end (fails.Links a b) p n lost = lost
no_network_end (fails.Attachment q m) p n lost = lost
no_network_end (fails.Network m) p n lost = lost
no_network_end (fails.Router gone) p n lost = apart gone n (sym lost)
no_network_end (fails.Stub q subnet) p n lost = apart q n (sym lost.1)

module _ (inner : List Link) (f : AreaFailure) (A : List Advertisement) (p : Prefix) where
  pub end_or : (v : Vertex) (cost : ℕ) → IsEnd A p v cost → LosesEnd f p v ⊎ IsEnd (B inner f A) p v cost
  end_or (vertex.Network n) cost e = inr (e.0, e.1, e.2, network_stays inner f A n e.1 e.2 e.3, e.4)
  end_or (vertex.Router r) cost e =
      elim (bool_cases (takes inner f r (stub e.0 e.1 cost))) [
        | inl goes ↦ inl (stub_lost inner r p e.0 e.1 cost e.3 f goes)
        | inr free ↦ inr (e.0, e.1, link_stays inner f A r kind.Stub e.0 e.1 cost e.2 free, e.3)
      ]

  pub end_goes : (v : Vertex) (cost : ℕ) → LosesEnd f p v → IsEnd (B inner f A) p v cost → ⊥
  end_goes (vertex.Network n) cost lost e = no_network_end f p n lost
  end_goes (vertex.Router r) cost lost e = both_ways _ (link_free inner f A r kind.Stub e.0 e.1 cost e.2) (lost_stub inner r p e.0 e.1 cost e.3 f lost)

ends_are_lost : (f : AreaFailure) (A : List Advertisement) (lost : List End) → ((e : End) → Contains lost e ↔ (StandsIn A e × LosesEnd f e.prefix e.vertex))
    → AreEndsLost A f lost
unfolding without
ends_are_lost f A lost are = record {
  within = λ e m. let w = (are e).0 m in (w.0, (λ left. end_goes (inner_of f A) f A e.prefix e.vertex e.cost w.1 left));
  all = λ e there. elim (end_or (inner_of f A) f A e.prefix e.vertex e.cost there) [ inl goes ↦ inl ((are e).1 (there, goes)) | inr left ↦ inr left ];
}

module _ (f g : AreaFailure) (A : List Advertisement) (is : f ≡ g) where
  named_lost : (lost : List End) → AreEndsLost A g lost → AreEndsLost A f lost
  named_lost lost are = subst (λ (h : AreaFailure). AreEndsLost A h lost) (sym is) are

pub wire_ends_lost : (f : AreaFailure) (A : List Advertisement) (a b : RouterId) (subnet : Prefix) (found : Result (Vec End Global) AllocError) → f ≡ fails.Link a b subnet
    → IfOk found (λ ends. AreStubsOf A a b subnet ends.items) → IfOk found (λ ends. AreEndsLost A f ends.items)
wire_ends_lost f A a b subnet found is ends =
    IfOk-map found _ _ ends (λ v are. named_lost f (fails.Link a b subnet) A is v.items (ends_are_lost (fails.Link a b subnet) A v.items are))

pub end_ends_lost : (f : AreaFailure) (A : List Advertisement) (a b : RouterId) (subnet : Prefix) (found : Result (Vec End Global) AllocError) → f ≡ fails.End a b subnet
    → IfOk found (λ ends. AreStubsAt A a subnet ends.items) → IfOk found (λ ends. AreEndsLost A f ends.items)
end_ends_lost f A a b subnet found is ends =
    IfOk-map found _ _ ends (λ v are. named_lost f (fails.End a b subnet) A is v.items (ends_are_lost (fails.End a b subnet) A v.items are))

pub stub_ends_lost : (f : AreaFailure) (A : List Advertisement) (a : RouterId) (subnet : Prefix) (found : Result (Vec End Global) AllocError) → f ≡ fails.Stub a subnet
    → IfOk found (λ ends. AreStubsAt A a subnet ends.items) → IfOk found (λ ends. AreEndsLost A f ends.items)
stub_ends_lost f A a subnet found is ends =
    IfOk-map found _ _ ends (λ v are. named_lost f (fails.Stub a subnet) A is v.items (ends_are_lost (fails.Stub a subnet) A v.items are))

pub router_ends_lost : (f : AreaFailure) (A : List Advertisement) (gone : RouterId) (found : Result (Vec End Global) AllocError) → f ≡ fails.Router gone
    → IfOk found (λ ends. AreEndsAt A (vertex.Router gone) ends.items) → IfOk found (λ ends. AreEndsLost A f ends.items)
router_ends_lost f A gone found is ends =
    IfOk-map found _ _ ends (λ v are. named_lost f (fails.Router gone) A is v.items (ends_are_lost (fails.Router gone) A v.items are))

pub no_ends_lost : (f : AreaFailure) (A : List Advertisement) (g : AreaFailure) → f ≡ g → ((p : Prefix) (v : Vertex) → LosesEnd g p v → ⊥) → (lost : List End) → lost ≡ []
    → AreEndsLost A f lost
no_ends_lost f A g is none lost empty =
    named_lost f g A is lost
    (ends_are_lost g A lost
    (λ e. ((λ m. absurd (let low = subst (λ (l : List End). Contains l e) empty m in let under = low.1 in omega arith)), (λ l. absurd (none e.prefix e.vertex l.1)))))

-- ---- the ends of a prefix at two routers

abbrev pub is_to : Prefix → End → Bool
is_to p e = eqb e.prefix.address.0 p.address.0 && eqb e.prefix.length p.length

to_prefix : (p : Prefix) (e : End) → is_to p e ≡ true → e.prefix ≡ p
to_prefix p e t = let w = and_parts (eqb e.prefix.address.0 p.address.0) (eqb e.prefix.length p.length) t in prefix_same e.prefix p (eqb-true _ _ w.0) (eqb-true _ _ w.1)

prefix_to : (p : Prefix) (e : End) → e.prefix ≡ p → is_to p e ≡ true
prefix_to p e same = and_from _ _ (eq-eqb _ _ (ap (λ (q : Prefix). q.address.0) same)) (eq-eqb _ _ (ap (λ (q : Prefix). q.length) same))

pub to_test : (p : Prefix) (e : End) (b : Bool) → IsTrue b ↔ (e.prefix ≡ p) → b ≡ is_to p e
to_test p e b both =
    elim (bool_cases b) [
      | inl t ↦ t ∙ sym (prefix_to p e (both.0 t))
      | inr f ↦ f ∙ sym (false_from_ne_true (is_to p e) (λ t. both_ways b f (both.1 (to_prefix p e t))))
    ]

pub are_stubs_at : (A : List Advertisement) (a : RouterId) (p : Prefix) (found kept : List End) → AreEndsAt A (vertex.Router a) found → kept ≡ filter (is_to p) found → AreStubsAt A a p kept
are_stubs_at A a p found kept at those e = (
  λ m.
      let k = kept_of (is_to p) found e (subst (λ (l : List End). Contains l e) those m) in
      let w = (at e).0 k.0 in
      (w.0, (to_prefix p e k.1, w.1)),
  λ w. subst (λ (l : List End). Contains l e) (sym those) (of_kept (is_to p) found e ((at e).1 (w.0, w.1.1)) (prefix_to p e w.1.0)),
)

pub are_stubs : (A : List Advertisement) (a b : RouterId) (p : Prefix) (first second both : List End) → AreStubsAt A a p first → AreStubsAt A b p second → both ≡ first ++ second
    → AreStubsOf A a b p both
are_stubs A a b p first second both at_a at_b together e = (
  λ m. elim (Contains-append_cases first second e (subst (λ (l : List End). Contains l e) together m)) [
    | inl here ↦ (let w = (at_a e).0 here in (w.0, (w.1.0, inl w.1.1)))
    | inr here ↦ (let w = (at_b e).0 here in (w.0, (w.1.0, inr w.1.1)))
  ],
  λ w.
      let there : Contains (first ++ second) e = elim w.1.1 [
        | inl at ↦ Contains-append_left first second e ((at_a e).1 (w.0, (w.1.0, at)))
        | inr at ↦ Contains-append_right first second e ((at_b e).1 (w.0, (w.1.0, at)))
      ] in
      subst (λ (l : List End). Contains l e) (sym together) there,
)

-- ---- the edges that touch a vertex

abbrev pub touching : Vertex → Edge → Bool
touching v e = vertex_eq e.from v || vertex_eq e.to v

touching_is : (v : Vertex) (e : Edge) → touching v e ≡ true → Touches v e
touching_is v e t = elim (or_cases (vertex_eq e.from v) (vertex_eq e.to v) t) [ inl s ↦ inl (vertex_eq-same e.from v s) | inr s ↦ inr (vertex_eq-same e.to v s) ]

is_touching : (v : Vertex) (e : Edge) → Touches v e → touching v e ≡ true
is_touching v e (inl s) = or_left (vertex_eq e.from v) (vertex_eq e.to v) (subst (λ (w : Vertex). vertex_eq e.from w ≡ true) s (vertex_eq-refl e.from))
is_touching v e (inr s) = or_right (vertex_eq e.from v) (vertex_eq e.to v) (subst (λ (w : Vertex). vertex_eq e.to w ≡ true) s (vertex_eq-refl e.to))

pub touch_test : (v : Vertex) (e : Edge) (b : Bool) → IsTrue b ↔ Touches v e → b ≡ touching v e
touch_test v e b both =
    elim (bool_cases b) [
      | inl t ↦ t ∙ sym (is_touching v e (both.0 t))
      | inr f ↦ f ∙ sym (false_from_ne_true (touching v e) (λ t. both_ways b f (both.1 (touching_is v e t))))
    ]

pub are_near : (A : List Advertisement) (v : Vertex) (edges kept : List Edge) → IsEdgesOf A edges → kept ≡ filter (touching v) edges → AreEdgesAt A v kept
are_near A v edges kept of those e = (
  λ m.
      let k = kept_of (touching v) edges e (subst (λ (l : List Edge). Contains l e) those m) in
      ((of e).0 k.0, touching_is v e k.1),
  λ w. subst (λ (l : List Edge). Contains l e) (sym those) (of_kept (touching v) edges e ((of e).1 w.0) (is_touching v e w.1)),
)
