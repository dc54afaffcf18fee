-- A failure only takes away: edges and ends of the area after it are edges and ends of the area before it.
use Rattle.std.proofs.Common.{◌≡◌, ◌↔◌, ◌+◌, ◌≤◌, ℕ, ◌⊎◌, Bool, true, cond, eqb-true, false, List, [], ◌∷◌, map, not, None, Some, refl, sym, ◌∙◌, ap, subst, inl, inr, arith}
use Rattle.std.specs.List.{Contains, filter}
use Rattle.std.proofs.lemmas.List.Elements.{All-contains}
use Rattle.ospf_base.specs.declared.ids.RouterId.{RouterId}
use Rattle.ospf_base.specs.declared.prefix.Prefix.{Prefix}
use Rattle.ospf_lsa.specs.declared.link.Link.{Link}
use Rattle.ospf_lsa.specs.declared.link.LinkKind.{LinkKind}
use Rattle.ospf_lsa.specs.declared.link.LinkKind.TheVariants as kind
use Rattle.ospf_graph.specs.declared.graph.Edge.{Edge}
use Rattle.ospf_graph.specs.declared.graph.Start.{Start}
use Rattle.ospf_graph.specs.declared.graph.Vertex.{Vertex}
use Rattle.ospf_graph.specs.declared.graph.Vertex.TheVariants as vertex
use Rattle.ospf_graph.specs.declared.route.Route.{Route}
use Rattle.ospf_graph.specs.Advertisements.{Advertisement, router_lsa, network_lsa, HasLink, IsAddressOn, IsAttached, IsListed, IsNetwork, is_transit_to, transit_address}
use Rattle.ospf_graph.specs.Graph.{IsEdge, IsEdgeBetween, IsPath, path_cost}
use Rattle.ospf_graph.specs.Routes.{IsEnd, IsRoute, IsTable, Way, way_cost}
use Rattle.ospf_graph.specs.Tree.{IsTree}
use Rattle.ospf_graph.specs.Search.{AtIn, StartsIn}
use Rattle.ospf_graph.specs.declared.paths.Settled.{Settled}
use Rattle.ospf_graph.specs.declared.paths.VertexStart.{VertexStart}
use Rattle.ospf_graph.proofs.ListLemmas.{bool_cases, member_cases, member_head, member_later, member_of_map, member_to_map}
use Rattle.ospf_graph.proofs.TreeLemmas.{IsPath-map, at_end}
use Rattle.ospf_whatif.specs.Failure.{inner_of, left_of_lsa, kept_links, takes, without, without_all}
use Rattle.ospf_whatif.specs.Laws.{IsOffLeastPaths}
use Rattle.ospf_whatif.specs.declared.failure.AreaFailure.{AreaFailure}
use Rattle.ospf_whatif.specs.declared.failure.AreaFailure.TheVariants as fails

-- ---- links of a router to one network: a failure takes all of them or none

pub transit_taken : (inner : List Link) (f : AreaFailure) (r : RouterId) (n id link_data metric : ℕ) (k : LinkKind)
    → is_transit_to n (record { id = id; link_data = link_data; kind = k; metric = metric }) ≡ true
    → takes inner f r (record { id = id; link_data = link_data; kind = k; metric = metric }) ≡ takes inner f r (record { id = n; link_data = 0; kind = kind.Transit; metric = 0 })
transit_taken inner f r n id link_data metric kind.PointToPoint is = absurd (cc)
transit_taken inner f r n id link_data metric kind.Stub is = absurd (cc)
transit_taken inner f r n id link_data metric kind.Virtual is = absurd (cc)
transit_taken inner (fails.Link a b subnet) r n id link_data metric kind.Transit is = refl
transit_taken inner (fails.End a b subnet) r n id link_data metric kind.Transit is = refl
transit_taken inner (fails.Links a b) r n id link_data metric kind.Transit is = refl
transit_taken inner (fails.Attachment q m) r n id link_data metric kind.Transit is = let same : id ≡ n = eqb-true id n is in rw same refl
transit_taken inner (fails.Network m) r n id link_data metric kind.Transit is = let same : id ≡ n = eqb-true id n is in rw same refl
transit_taken inner (fails.Router q) r n id link_data metric kind.Transit is = refl
transit_taken inner (fails.Stub q p) r n id link_data metric kind.Transit is = refl

module _ (inner : List Link) (f : AreaFailure) (r : RouterId) (n : ℕ) where
  abbrev pub On : Bool
  On = takes inner f r (record { id = n; link_data = 0; kind = kind.Transit; metric = 0 })

  taken_is : (l : Link) → is_transit_to n l ≡ true → takes inner f r l ≡ On
  taken_is l is = transit_taken inner f r n l.id l.link_data l.metric l.kind is

  pub none_left : On ≡ true → (links : List Link) → transit_address n (kept_links inner f r links) ≡ None
  none_left all [] = refl
  none_left all (l ∷ rest) =
      elim (bool_cases (takes inner f r l)) [
        | inl goes ↦ rw goes (none_left all rest)
        | inr stays ↦ elim (bool_cases (is_transit_to n l)) [
          | inl is ↦ absurd (let other : takes inner f r l ≡ true = taken_is l is ∙ all in cc)
          | inr other ↦ rw (stays, other) (none_left all rest)
        ]
      ]

  pub address_stays : On ≡ false → (links : List Link) → transit_address n (kept_links inner f r links) ≡ transit_address n links
  address_stays none [] = refl
  address_stays none (l ∷ rest) =
      elim (bool_cases (takes inner f r l)) [
        | inl goes ↦ elim (bool_cases (is_transit_to n l)) [
          | inl is ↦ absurd (let other : takes inner f r l ≡ false = taken_is l is ∙ none in cc)
          | inr other ↦ rw (goes, other) (address_stays none rest)
        ]
        | inr stays ↦ elim (bool_cases (is_transit_to n l)) [
          | inl is ↦ rw (stays, is) refl
          | inr other ↦ rw (stays, other) (address_stays none rest)
        ]
      ]

  pub address_kept : (links : List Link) (address : ℕ) → transit_address n (kept_links inner f r links) ≡ Some address → transit_address n links ≡ Some address
  address_kept [] address is = is
  address_kept (l ∷ rest) address is =
      elim (bool_cases (takes inner f r l)) [
        | inl goes ↦ elim (bool_cases (is_transit_to n l)) [
          | inl there ↦ absurd (let all : On ≡ true = sym (taken_is l there) ∙ goes in let none = none_left all rest in let now = rw goes at is in cc)
          | inr other ↦ rw other (address_kept rest address (rw goes at is))
        ]
        | inr stays ↦ elim (bool_cases (is_transit_to n l)) [
          | inl there ↦ rw there (rw (stays, there) at is)
          | inr other ↦ rw other (address_kept rest address (rw (stays, other) at is))
        ]
      ]

-- ---- what a test lets through, and nothing else, stays in a filter

pub kept_of : {X : Type 0} (p : X → Bool) (xs : List X) (x : X) → Contains (filter p xs) x → Contains xs x × (p x ≡ true)
kept_of p [] x c = absurd (omega (arith, c.1))
kept_of p (y ∷ xs) x c = go (p y) refl c (kept_of p xs x)
  where
    go : (b : Bool) → p y ≡ b → Contains (cond b (y ∷ filter p xs) (filter p xs)) x → (Contains (filter p xs) x → Contains xs x × (p x ≡ true)) → Contains (y ∷ xs) x × (p x ≡ true)
    go false e c rec = let r = rec c in (member_later y xs x r.0, r.1)
    go true e c rec = elim (member_cases y (filter p xs) x c) [
      | inl is ↦ (subst (Contains (y ∷ xs)) is (member_head y xs), ap p (sym is) ∙ e)
      | inr rest ↦ let r = rec rest in (member_later y xs x r.0, r.1)
    ]

pub of_kept : {X : Type 0} (p : X → Bool) (xs : List X) (x : X) → Contains xs x → p x ≡ true → Contains (filter p xs) x
of_kept p [] x c t = absurd (omega (arith, c.1))
of_kept p (y ∷ xs) x c t = go (p y) refl (member_cases y xs x c) (λ rest. of_kept p xs x rest t)
  where
    go : (b : Bool) → p y ≡ b → (y ≡ x) ⊎ Contains xs x → (Contains xs x → Contains (filter p xs) x) → Contains (cond b (y ∷ filter p xs) (filter p xs)) x
    go true e (inl is) rec = subst (Contains (y ∷ filter p xs)) is (member_head y (filter p xs))
    go true e (inr rest) rec = member_later y (filter p xs) x (rec rest)
    go false e (inl is) rec = let f : false ≡ true = sym e ∙ ap p is ∙ t in cc
    go false e (inr rest) rec = rec rest

-- ---- an area and what a failure leaves of it

module _ (inner : List Link) (f : AreaFailure) (A : List Advertisement) where
  abbrev B : List Advertisement
  B = map (left_of_lsa inner f) A

  pub router_back : (r : RouterId) (links : List Link) → Contains B (router_lsa r links)
      → (all : List Link) × Contains A (router_lsa r all) × (kept_links inner f r all ≡ links)
  router_back r links h = let m = member_of_map (left_of_lsa inner f) A _ h in router_is m.0 m.1 m.2
    where
      router_is : (x : Advertisement) → Contains A x → left_of_lsa inner f x ≡ router_lsa r links → (all : List Link) × Contains A (router_lsa r all) × (kept_links inner f r all ≡ links)
      router_is (router_lsa q all) m e =
          let same : q ≡ r = cc in
          let left : kept_links inner f q all ≡ links = cc in
          (all, subst (λ x. Contains A (router_lsa x all)) same m, subst (λ x. kept_links inner f x all ≡ links) same left)
      router_is (network_lsa n q mask attached) m e = cc

  pub network_back : (n : ℕ) (r : RouterId) (mask : ℕ) (attached : List RouterId) → Contains B (network_lsa n r mask attached) → Contains A (network_lsa n r mask attached)
  network_back n r mask attached h = let m = member_of_map (left_of_lsa inner f) A _ h in network_is m.0 m.1 m.2
    where
      network_is : (x : Advertisement) → Contains A x → left_of_lsa inner f x ≡ network_lsa n r mask attached → Contains A (network_lsa n r mask attached)
      network_is (router_lsa q all) m e = cc
      network_is (network_lsa k q other names) m e = rw (← e) m

  pub network_to : (n : ℕ) (r : RouterId) (mask : ℕ) (attached : List RouterId) → Contains A (network_lsa n r mask attached) → Contains B (network_lsa n r mask attached)
  network_to n r mask attached h = member_to_map (left_of_lsa inner f) A (network_lsa n r mask attached) h

  listed_from : (r : RouterId) → IsListed B r → IsListed A r
  listed_from r h = let x = router_back r h.0 h.1 in (x.0, x.1)

  listed_to : (r : RouterId) → IsListed A r → IsListed B r
  listed_to r h = (kept_links inner f r h.0, member_to_map (left_of_lsa inner f) A (router_lsa r h.0) h.1)

  link_from : (r : RouterId) (k : LinkKind) (id link_data metric : ℕ) → HasLink B r k id link_data metric → HasLink A r k id link_data metric
  link_from r k id link_data metric h =
      let x = router_back r h.links h.listed in
      let link : Link = record { id = id; link_data = link_data; kind = k; metric = metric } in
      record { links = x.0; listed = x.1; link_in = (kept_of (λ l. not (takes inner f r l)) x.0 link (subst (λ l. Contains l link) (sym x.2) h.link_in)).0 }

  network_from : (n mask : ℕ) (attached : List RouterId) → IsNetwork B n mask attached → IsNetwork A n mask attached
  network_from n mask attached h =
      record {
        router = h.router;
        listed = network_back n _ _ _ h.listed;
        largest = λ q m others in_a. h.largest q m others (network_to n q m others in_a);
      }

  attached_from : (n : ℕ) (r : RouterId) → IsAttached B n r → IsAttached A n r
  attached_from n r h = record { mask = h.mask; attached = h.attached; names = h.names; network = network_from n h.mask h.attached h.network }

  address_from : (n : ℕ) (r : RouterId) (address : ℕ) → IsAddressOn B n r address → IsAddressOn A n r address
  address_from n r address h =
      let x = router_back r h.links h.listed in
      record { links = x.0; listed = x.1; first = address_kept inner f r n x.0 address (ap (λ l. transit_address n l) x.2 ∙ h.first) }

  pub edge_from : (from to : Vertex) (cost address : ℕ) → IsEdgeBetween B from to cost address → IsEdgeBetween A from to cost address
  edge_from (vertex.Router a) (vertex.Router b) cost address e =
      (link_from a kind.PointToPoint b.0 address cost e.0, e.1, e.2, link_from b kind.PointToPoint a.0 e.1 e.2 e.3)
  edge_from (vertex.Router a) (vertex.Network n) cost address e = (link_from a kind.Transit n address cost e.0, attached_from n a e.1)
  edge_from (vertex.Network n) (vertex.Router b) cost address e = (e.0, address_from n b address e.1, attached_from n b e.2)
  edge_from (vertex.Network n) (vertex.Network m) cost address e = e

  end_from : (prefix : Prefix) (v : Vertex) (cost : ℕ) → IsEnd B prefix v cost → IsEnd A prefix v cost
  end_from prefix (vertex.Network n) cost e = (e.0, e.1, e.2, network_from n e.1 e.2 e.3, e.4)
  end_from prefix (vertex.Router r) cost e = (e.0, e.1, link_from r kind.Stub e.0 e.1 cost e.2, e.3)

  -- a way after the failure was a way before it, at the same cost
  way_from : (root : RouterId) (prefix : Prefix) (w : Way B root prefix) → (v : Way A root prefix) × (way_cost v ≡ way_cost w)
  way_from root prefix w = (
    record {
      listed = listed_from root w.listed;
      path = w.path;
      end = w.end;
      end_cost = w.end_cost;
      leads = IsPath-map (IsEdge B) (IsEdge A) (λ e is. edge_from e.from e.to e.cost e.link_data is) w.path (vertex.Router root) w.end w.leads;
      ends = end_from prefix w.end w.end_cost w.ends;
    },
    refl,
  )

  under : (root : RouterId) (p q : Prefix) → p ≡ q → (w : Way A root q) → (v : Way A root p) × (way_cost v ≡ way_cost w)
  under root p q same w = subst (λ x. (v : Way A root x) × (way_cost v ≡ way_cost w)) (sym same) (w, refl)

  kept_less : (root : RouterId) (before after : List Route) → IsTable A root before → IsTable B root after → (route : Route) → Contains after route
      → (old : Route) × Contains before old × (old.prefix ≡ route.prefix) × (old.cost ≤ route.cost)
  kept_less root before after is_before is_after route m =
      let exact : IsRoute B root route = All-contains (IsRoute B root) after route is_after.sound m in
      let w = way_from root route.prefix exact.way in
      let found = is_before.complete route.prefix w.0 in
      let old : IsRoute A root found.0 = All-contains (IsRoute A root) before found.0 is_before.sound found.1 in
      let v = under root found.0.prefix route.prefix found.2 w.0 in
      let low = old.least v.0 in
      let cost : found.0.cost ≤ route.cost = omega (arith, low, v.1, w.1, old.cost_is, exact.cost_is) in
      (found.0, found.1, found.2, cost)

pub failures_take_away : (f : AreaFailure) (A : List Advertisement) (root : RouterId) (before after : List Route) → IsTable A root before → IsTable (without f A) root after
    → (route : Route) → Contains after route → (old : Route) × Contains before old × (old.prefix ≡ route.prefix) × (old.cost ≤ route.cost)
unfolding without
failures_take_away f A root before after is_before is_after route m = kept_less (inner_of f A) f A root before after is_before is_after route m

pub failures_leave_listed : (f : AreaFailure) (A : List Advertisement) (r : RouterId) → IsListed A r ↔ IsListed (without f A) r
unfolding without
failures_leave_listed f A r = (listed_to (inner_of f A) f A r, listed_from (inner_of f A) f A r)

pub failures_make_no_end : (f : AreaFailure) (A : List Advertisement) (prefix : Prefix) (v : Vertex) (cost : ℕ) → IsEnd (without f A) prefix v cost → IsEnd A prefix v cost
unfolding without
failures_make_no_end f A prefix v cost is = end_from (inner_of f A) f A prefix v cost is

pub failures_make_no_edge : (f : AreaFailure) (A : List Advertisement) (e : Edge) → IsEdge (without f A) e → IsEdge A e
unfolding without
failures_make_no_edge f A e is = edge_from (inner_of f A) f A e.from e.to e.cost e.link_data is

-- a way after a failure was one before it, as long
failure_way : (f : AreaFailure) (A : List Advertisement) (root : RouterId) (prefix : Prefix) (w : Way (without f A) root prefix) → (v : Way A root prefix) × (way_cost v ≡ way_cost w)
unfolding without
failure_way f A root prefix w = way_from (inner_of f A) f A root prefix w

-- ---- several failures

pub all_leave_listed : (fs : List AreaFailure) (A : List Advertisement) (r : RouterId) → IsListed A r ↔ IsListed (without_all fs A) r
all_leave_listed [] A r = ((λ h. h), (λ h. h))
all_leave_listed (f ∷ fs) A r =
    let one = failures_leave_listed f A r in
    let more = all_leave_listed fs (without f A) r in
    ((λ h. more.0 (one.0 h)), (λ h. one.1 (more.1 h)))

pub all_make_no_end : (fs : List AreaFailure) (A : List Advertisement) (prefix : Prefix) (v : Vertex) (cost : ℕ) → IsEnd (without_all fs A) prefix v cost → IsEnd A prefix v cost
all_make_no_end [] A prefix v cost is = is
all_make_no_end (f ∷ fs) A prefix v cost is = failures_make_no_end f A prefix v cost (all_make_no_end fs (without f A) prefix v cost is)

pub all_make_no_edge : (fs : List AreaFailure) (A : List Advertisement) (e : Edge) → IsEdge (without_all fs A) e → IsEdge A e
all_make_no_edge [] A e is = is
all_make_no_edge (f ∷ fs) A e is = failures_make_no_edge f A e (all_make_no_edge fs (without f A) e is)

all_way : (fs : List AreaFailure) (A : List Advertisement) (root : RouterId) (prefix : Prefix) (w : Way (without_all fs A) root prefix)
    → (v : Way A root prefix) × (way_cost v ≡ way_cost w)
all_way [] A root prefix w = (w, refl)
all_way (f ∷ fs) A root prefix w =
    let more = all_way fs (without f A) root prefix w in
    let one = failure_way f A root prefix more.0 in
    (one.0, one.1 ∙ more.1)

pub all_make_no_way : (fs : List AreaFailure) (A : List Advertisement) (root : RouterId) (prefix : Prefix) → Way (without_all fs A) root prefix → Way A root prefix
all_make_no_way fs A root prefix w = (all_way fs A root prefix w).0

under_same : (A : List Advertisement) (root : RouterId) (p q : Prefix) → p ≡ q → (w : Way A root q) → (v : Way A root p) × (way_cost v ≡ way_cost w)
under_same A root p q same w = subst (λ x. (v : Way A root x) × (way_cost v ≡ way_cost w)) (sym same) (w, refl)

-- no route costs less after failures
pub all_bring_nothing_nearer : (fs : List AreaFailure) (A : List Advertisement) (root : RouterId) (old new : Route) → IsRoute A root old → IsRoute (without_all fs A) root new
    → old.prefix ≡ new.prefix → old.cost ≤ new.cost
all_bring_nothing_nearer fs A root old new was is same =
    let w = all_way fs A root new.prefix is.way in
    let v = under_same A root old.prefix new.prefix same w.0 in
    let low = was.least v.0 in
    omega (arith, low, v.1, w.1, was.cost_is, is.cost_is)

-- ---- a tree whose least paths all stay

module _ (P Q : Edge → Type 0) (root : Vertex) (At : Vertex → ℕ → Type 0) (Starts : Vertex → Start → Type 0) (t : IsTree P root At Starts)
    (less : (e : Edge) → Q e → P e) (each : (e : Edge) → P e → Q e ⊎ IsOffLeastPaths At e) where
  stays : (path : List Edge) (u w : Vertex) (d : ℕ) → IsPath P u path w → At u d → At w (d + path_cost path) → IsPath Q u path w
  stays [] u w d leads at end = leads
  stays (e ∷ rest) u w d leads at end =
      let from : At e.from d = rw leads.0 at in
      let near = t.relaxed e d leads.1 from in
      let far = at_end P root At Starts t rest e.to w near.0 leads.2 near.1 in
      let same : far.0 ≡ d + (e.cost + path_cost rest) = t.one w far.0 _ far.1 end in
      let tight : near.0 ≡ d + e.cost = (let a = near.2 in let b = far.2 in omega arith) in
      let to : At e.to (d + e.cost) = rw tight at near.1 in
      let sums : d + (e.cost + path_cost rest) ≡ d + e.cost + path_cost rest = omega arith in
      let edge : Q e = elim (each e leads.1) [ inl q ↦ q | inr slack ↦ absurd (slack d from to) ] in
      (leads.0, edge, stays rest e.to w (d + e.cost) leads.2 to (rw sums at end))

  pub tree_stays : IsTree Q root At Starts
  tree_stays =
      record {
        one = t.one;
        root_at = t.root_at;
        root_start = t.root_start;
        path_of = λ v d at. let p = t.path_of v d at in (p.0, stays p.0 root v 0 p.1 t.root_at (let cost : 0 + path_cost p.0 ≡ d = omega (arith, p.2) in subst (λ k. At v k) (sym cost) at), p.2);
        path_with = λ v x has. let p = t.path_with v x has in (p.0, stays p.0 root v 0 p.1 t.root_at (let cost : 0 + path_cost p.0 ≡ path_cost p.0 = omega arith in subst (λ k. At v k) (sym cost) p.2), p.2, p.3);
        relaxed = λ e d is at. t.relaxed e d (less e is) at;
        spread = λ e d x is at end has. t.spread e d x (less e is) at end has;
      }

pub trees_stay : (f : AreaFailure) (A : List Advertisement) (root : Vertex) (settled : List Settled) (starts : List VertexStart)
    → IsTree (IsEdge A) root (AtIn settled) (StartsIn starts)
    → ((e : Edge) → IsEdge A e → IsEdge (without f A) e ⊎ IsOffLeastPaths (AtIn settled) e) → IsTree (IsEdge (without f A)) root (AtIn settled) (StartsIn starts)
trees_stay f A root settled starts t each =
    tree_stays (IsEdge A) (IsEdge (without f A)) root (AtIn settled) (StartsIn starts) t (failures_make_no_edge f A) each

pub all_trees_stay : (fs : List AreaFailure) (A : List Advertisement) (root : Vertex) (settled : List Settled) (starts : List VertexStart)
    → IsTree (IsEdge A) root (AtIn settled) (StartsIn starts)
    → ((e : Edge) → IsEdge A e → IsEdge (without_all fs A) e ⊎ IsOffLeastPaths (AtIn settled) e) → IsTree (IsEdge (without_all fs A)) root (AtIn settled) (StartsIn starts)
all_trees_stay fs A root settled starts t each =
    tree_stays (IsEdge A) (IsEdge (without_all fs A)) root (AtIn settled) (StartsIn starts) t (all_make_no_edge fs A) each
