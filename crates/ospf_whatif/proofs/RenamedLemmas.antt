-- A routing table depends on the names of transit networks in nothing but the choice among networks of one prefix.
use Rattle.std.proofs.Common.{◌≡◌, ◌↔◌, ◌+◌, ◌≤◌, ℕ, true, false, eqb, eq-eqb, List, [], ◌∷◌, map, refl, sym, ◌∙◌, ap, subst, inl, inr, arith}
use Rattle.std.specs.List.{Contains}
use Rattle.std.proofs.lemmas.Bool.Decides.{eqb_tells}
use Rattle.ospf_base.specs.declared.ids.RouterId.{RouterId}
use Rattle.ospf_base.specs.declared.prefix.Prefix.{Prefix}
use Rattle.ospf_lsa.specs.declared.link.Link.{Link}
use Rattle.ospf_lsa.specs.declared.link.LinkKind.{LinkKind}
use Rattle.ospf_lsa.specs.declared.link.LinkKind.TheVariants as kind
use Rattle.ospf_graph.specs.declared.graph.Edge.{Edge}
use Rattle.ospf_graph.specs.declared.graph.Vertex.{Vertex}
use Rattle.ospf_graph.specs.declared.graph.Vertex.TheVariants as vertex
use Rattle.ospf_graph.specs.declared.route.Route.{Route}
use Rattle.ospf_graph.specs.Advertisements.{Advertisement, router_lsa, network_lsa, HasLink, IsAddressOn, IsAttached, IsListed, IsNetwork, transit_address}
use Rattle.ospf_graph.specs.Graph.{IsEdge, IsEdgeBetween, IsPath, path_cost}
use Rattle.ospf_graph.specs.Routes.{hop_of, IsEnd, IsTable, Way}
use Rattle.ospf_graph.proofs.ListLemmas.{bool_cases, member_head, member_later, member_of_map, member_to_map}
use Rattle.ospf_whatif.specs.Renamed.{AreNames, IsNetworkNamed, renamed, renamed_id, renamed_link, renamed_lsa}
use Rattle.ospf_whatif.proofs.MatchingLemmas.{cost_same, HaveSameWays, hop_same, moved, moved_edge, same_tables}

-- ---- the first link to a network stays the first

-- no link of these leads to another network of the new name
abbrev AreApart : (ℕ → ℕ) → ℕ → List Link → Type 0
AreApart name n links = (l : Link) → Contains links l → l.kind ≡ kind.Transit → name l.id ≡ name n → l.id ≡ n

module _ (name : ℕ → ℕ) (n : ℕ) where
  same_test : (id : ℕ) → (name id ≡ name n → id ≡ n) → eqb (name id) (name n) ≡ eqb id n
  same_test id apart =
      elim (eqb_tells id n) [
        | inl w ↦ eq-eqb (name id) (name n) (ap name w.1) ∙ sym w.0
        | inr w ↦ elim (eqb_tells (name id) (name n)) [ inl v ↦ absurd (w.1 (apart v.1)) | inr v ↦ v.0 ∙ sym w.0 ]
      ]

  address_head : (id link_data metric : ℕ) (k : LinkKind) (rest : List Link)
      → (k ≡ kind.Transit → name id ≡ name n → id ≡ n)
      → transit_address (name n) (map (renamed_link name) rest) ≡ transit_address n rest
      → let l : Link = record { id = id; link_data = link_data; kind = k; metric = metric } in
      transit_address (name n) (map (renamed_link name) (l ∷ rest)) ≡ transit_address n (l ∷ rest)
  address_head id link_data metric kind.PointToPoint rest apart ih = ih
  address_head id link_data metric kind.Transit rest apart ih =
      elim (bool_cases (eqb id n)) [
        | inl t ↦ let u : eqb (name id) (name n) ≡ true = same_test id (apart refl) ∙ t in rw (t, u) refl
        | inr f ↦ let u : eqb (name id) (name n) ≡ false = same_test id (apart refl) ∙ f in rw (f, u) ih
      ]
  address_head id link_data metric kind.Stub rest apart ih = ih
  address_head id link_data metric kind.Virtual rest apart ih = ih

  address_same : (links : List Link) → AreApart name n links → transit_address (name n) (map (renamed_link name) links) ≡ transit_address n links
  address_same [] apart = refl
  address_same (l ∷ rest) apart =
      address_head l.id l.link_data l.metric l.kind rest (apart l (member_head l rest)) (address_same rest (λ x m. apart x (member_later l rest x m)))

-- two orders of which one follows the other are the same, where equal names are of equal networks
order_back : (m n a b : ℕ) → (n ≤ m → b ≤ a) → (a ≡ b → m ≡ n) → a ≤ b → m ≤ n
order_back m n a b kept apart le = grind arith

-- ---- the LSAs

module _ (name : ℕ → ℕ) (owner : ℕ → RouterId → RouterId) (A : List Advertisement) (is : AreNames name owner A) where
  abbrev B : List Advertisement
  B = map (renamed_lsa name owner) A

  router_back : (r : RouterId) (links : List Link) → Contains B (router_lsa r links)
      → (old : List Link) × Contains A (router_lsa r old) × (map (renamed_link name) old ≡ links)
  router_back r links h = let m = member_of_map (renamed_lsa name owner) A _ h in router_is m.0 m.1 m.2
    where
      router_is : (x : Advertisement) → Contains A x → renamed_lsa name owner x ≡ router_lsa r links
          → (old : List Link) × Contains A (router_lsa r old) × (map (renamed_link name) old ≡ links)
      router_is (router_lsa q old) m e =
          let same : q ≡ r = cc in
          let new : map (renamed_link name) old ≡ links = cc in
          (old, subst (λ x. Contains A (router_lsa x old)) same m, new)
      router_is (network_lsa n q mask attached) m e = cc

  network_back : (n : ℕ) (r : RouterId) (mask : ℕ) (attached : List RouterId) → IsNetworkNamed A n → Contains B (network_lsa (name n) r mask attached)
      → (q : RouterId) × Contains A (network_lsa n q mask attached) × (owner n q ≡ r)
  network_back n r mask attached known h = let m = member_of_map (renamed_lsa name owner) A _ h in lsa_is m.0 m.1 m.2
    where
      lsa_is : (x : Advertisement) → Contains A x → renamed_lsa name owner x ≡ network_lsa (name n) r mask attached
          → (q : RouterId) × Contains A (network_lsa n q mask attached) × (owner n q ≡ r)
      lsa_is (router_lsa q old) m e = cc
      lsa_is (network_lsa k q other names) m e =
          let id : name k ≡ name n = cc in
          let same : k ≡ n = is.apart k n (inr (q, (other, names, m))) known id in
          let by : owner k q ≡ r = cc in
          let masks : other ≡ mask = cc in
          let ends : names ≡ attached = cc in
          (q, subst (λ x. x) (λ i. Contains A (network_lsa (same i) q (masks i) (ends i))) m, ap (λ j. owner j q) (sym same) ∙ by)

  listed_to : (r : RouterId) → IsListed A r → IsListed B r
  listed_to r h = (map (renamed_link name) h.0, member_to_map (renamed_lsa name owner) A (router_lsa r h.0) h.1)

  listed_from : (r : RouterId) → IsListed B r → IsListed A r
  listed_from r h = let x = router_back r h.0 h.1 in (x.0, x.1)

  link_to : (r : RouterId) (k : LinkKind) (id link_data metric : ℕ) → HasLink A r k id link_data metric → HasLink B r k (renamed_id name k id) link_data metric
  link_to r k id link_data metric h =
      record {
        links = map (renamed_link name) h.links;
        listed = member_to_map (renamed_lsa name owner) A (router_lsa r h.links) h.listed;
        link_in = member_to_map (renamed_link name) h.links (record { id = id; link_data = link_data; kind = k; metric = metric }) h.link_in;
      }

  link_back : (r : RouterId) (k : LinkKind) (id link_data metric : ℕ) → HasLink B r k id link_data metric
      → (old : ℕ) × (renamed_id name k old ≡ id) × HasLink A r k old link_data metric
  link_back r k id link_data metric h =
      let x = router_back r h.links h.listed in
      let new : Link = record { id = id; link_data = link_data; kind = k; metric = metric } in
      let m = member_of_map (renamed_link name) x.0 new (subst (λ l. Contains l new) (sym x.2) h.link_in) in
      let l : Link = m.0 in
      let kinds : l.kind ≡ k = ap (λ (y : Link). y.kind) m.2 in
      let old : Link = record { id = l.id; link_data = link_data; kind = k; metric = metric } in
      let same : l ≡ old = λ i. record { id = l.id; link_data = (m.2 i).link_data; kind = (m.2 i).kind; metric = (m.2 i).metric } in
      (l.id, ap (λ j. renamed_id name j l.id) (sym kinds) ∙ ap (λ (y : Link). y.id) m.2, record { links = x.0; listed = x.1; link_in = subst (λ y. Contains x.0 y) same m.1 })

  network_named : (n mask : ℕ) (attached : List RouterId) → IsNetwork A n mask attached → IsNetworkNamed A n
  network_named n mask attached h = inr (h.router, (mask, attached, h.listed))

  network_to : (n mask : ℕ) (attached : List RouterId) → IsNetwork A n mask attached → IsNetwork B (name n) mask attached
  network_to n mask attached h =
      record {
        router = owner n h.router;
        listed = member_to_map (renamed_lsa name owner) A (network_lsa n h.router mask attached) h.listed;
        largest = λ q m others in_b.
            let x = network_back n q m others (network_named n mask attached h) in_b in
            subst (λ (r : RouterId). r.0 ≤ (owner n h.router).0) x.2
            ((is.owners n x.0 h.router (m, others, x.1) (mask, attached, h.listed)).0 (h.largest x.0 m others x.1));
      }

  network_from : (n mask : ℕ) (attached : List RouterId) → IsNetworkNamed A n → IsNetwork B (name n) mask attached → IsNetwork A n mask attached
  network_from n mask attached known h =
      let x = network_back n h.router mask attached known h.listed in
      record {
        router = x.0;
        listed = x.1;
        largest = λ q m others in_a.
            (is.owners n q x.0 (m, others, in_a) (mask, attached, x.1)).1
            (subst (λ (r : RouterId). (owner n q).0 ≤ r.0) (sym x.2)
            (h.largest (owner n q) m others (member_to_map (renamed_lsa name owner) A (network_lsa n q m others) in_a)));
      }

  attached_to : (n : ℕ) (r : RouterId) → IsAttached A n r → IsAttached B (name n) r
  attached_to n r h = record { mask = h.mask; attached = h.attached; names = h.names; network = network_to n h.mask h.attached h.network }

  attached_from : (n : ℕ) (r : RouterId) → IsNetworkNamed A n → IsAttached B (name n) r → IsAttached A n r
  attached_from n r known h = record { mask = h.mask; attached = h.attached; names = h.names; network = network_from n h.mask h.attached known h.network }

  links_apart : (n : ℕ) (r : RouterId) (links : List Link) → IsNetworkNamed A n → Contains A (router_lsa r links) → AreApart name n links
  links_apart n r links known listed l m transit =
      let old : Link = record { id = l.id; link_data = l.link_data; kind = kind.Transit; metric = l.metric } in
      let same : l ≡ old = λ i. record { id = l.id; link_data = l.link_data; kind = transit i; metric = l.metric } in
      is.apart l.id n (inl (r, (l.link_data, l.metric, record { links = links; listed = listed; link_in = subst (λ y. Contains links y) same m }))) known

  address_to : (n : ℕ) (r : RouterId) (address : ℕ) → IsNetworkNamed A n → IsAddressOn A n r address → IsAddressOn B (name n) r address
  address_to n r address known h =
      record {
        links = map (renamed_link name) h.links;
        listed = member_to_map (renamed_lsa name owner) A (router_lsa r h.links) h.listed;
        first = address_same name n h.links (links_apart n r h.links known h.listed) ∙ h.first;
      }

  address_from : (n : ℕ) (r : RouterId) (address : ℕ) → IsNetworkNamed A n → IsAddressOn B (name n) r address → IsAddressOn A n r address
  address_from n r address known h =
      let x = router_back r h.links h.listed in
      record { links = x.0; listed = x.1; first = sym (address_same name n x.0 (links_apart n r x.0 known x.1)) ∙ ap (λ l. transit_address (name n) l) x.2 ∙ h.first }

  -- ---- edges and paths

  -- a network, that an LSA names it
  abbrev Known : Vertex → Type 0
  Known (vertex.Router r) = Unit {0}
  Known (vertex.Network n) = IsNetworkNamed A n

  edge_to : (from to : Vertex) (cost address : ℕ) → IsEdgeBetween A from to cost address → IsEdgeBetween B (moved name from) (moved name to) cost address
  edge_to (vertex.Router a) (vertex.Router b) cost address e =
      (link_to a kind.PointToPoint b.0 address cost e.0, e.1, e.2, link_to b kind.PointToPoint a.0 e.1 e.2 e.3)
  edge_to (vertex.Router a) (vertex.Network n) cost address e = (link_to a kind.Transit n address cost e.0, attached_to n a e.1)
  edge_to (vertex.Network n) (vertex.Router b) cost address e =
      let h = e.2 in (e.0, address_to n b address (network_named n h.mask h.attached h.network) e.1, attached_to n b h)
  edge_to (vertex.Network n) (vertex.Network m) cost address e = e

  link_between : (a : RouterId) (id address cost : ℕ) → HasLink B a kind.PointToPoint id address cost → HasLink A a kind.PointToPoint id address cost
  link_between a id address cost h =
      let x = link_back a kind.PointToPoint id address cost h in subst (λ j. HasLink A a kind.PointToPoint j address cost) x.1 x.2

  edge_back : (from to : Vertex) (cost address : ℕ) → Known from → IsEdgeBetween B (moved name from) to cost address
      → (old : Vertex) × (moved name old ≡ to) × Known old × IsEdgeBetween A from old cost address
  edge_back (vertex.Router a) (vertex.Router b) cost address known e =
      (vertex.Router b, refl, tt, (link_between a b.0 address cost e.0, e.1, e.2, link_between b a.0 e.1 e.2 e.3))
  edge_back (vertex.Router a) (vertex.Network k) cost address known e =
      let x = link_back a kind.Transit k address cost e.0 in
      let named : IsNetworkNamed A x.0 = inl (a, (address, cost, x.2)) in
      (vertex.Network x.0, ap (λ j. vertex.Network j) x.1, named, (x.2, attached_from x.0 a named (subst (λ j. IsAttached B j a) (sym x.1) e.1)))
  edge_back (vertex.Network n) (vertex.Router b) cost address known e =
      (vertex.Router b, refl, tt, (e.0, address_from n b address known e.1, attached_from n b known e.2))
  edge_back (vertex.Network n) (vertex.Network m) cost address known e = absurd e

  path_to : (path : List Edge) (a b : Vertex) → IsPath (IsEdge A) a path b → IsPath (IsEdge B) (moved name a) (map (moved_edge name) path) (moved name b)
  path_to [] a b leads = ap (moved name) leads
  path_to (e ∷ rest) a b leads =
      (ap (moved name) leads.0, edge_to e.from e.to e.cost e.link_data leads.1, path_to rest e.to b leads.2)

  path_back : (path : List Edge) (a b : Vertex) → Known a → IsPath (IsEdge B) (moved name a) path b
      → (old : List Edge) × (end : Vertex) × (map (moved_edge name) old ≡ path) × (moved name end ≡ b) × Known end × IsPath (IsEdge A) a old end
  path_back [] a b known leads = ([], a, refl, leads, known, refl)
  path_back (e ∷ rest) a b known leads =
      let step = edge_back a e.to e.cost e.link_data known (subst (λ v. IsEdgeBetween B v e.to e.cost e.link_data) leads.0 leads.1) in
      let more = path_back rest step.0 b step.2 (subst (λ v. IsPath (IsEdge B) v rest b) (sym step.1) leads.2) in
      let first : Edge = record { from = a; to = step.0; cost = e.cost; link_data = e.link_data } in
      let from : moved name a ≡ e.from = sym leads.0 in
      let same : map (moved_edge name) (first ∷ more.0) ≡ e ∷ rest =
      λ i. record { from = from i; to = step.1 i; cost = e.cost; link_data = e.link_data } ∷ more.2 i in
      (first ∷ more.0, more.1, same, more.3, more.4, (refl, step.3, more.5))

  end_to : (p : Prefix) (v : Vertex) (cost : ℕ) → IsEnd A p v cost → IsEnd B p (moved name v) cost
  end_to p (vertex.Network n) cost e = (e.0, e.1, e.2, network_to n e.1 e.2 e.3, (is.prefixes n e.1 e.2 p e.3).0 e.4)
  end_to p (vertex.Router r) cost e = (e.0, e.1, link_to r kind.Stub e.0 e.1 cost e.2, e.3)

  end_from : (p : Prefix) (v : Vertex) (cost : ℕ) → Known v → IsEnd B p (moved name v) cost → IsEnd A p v cost
  end_from p (vertex.Network n) cost known e =
      let old = network_from n e.1 e.2 known e.3 in (e.0, e.1, e.2, old, (is.prefixes n e.1 e.2 p old).1 e.4)
  end_from p (vertex.Router r) cost known e =
      let x = link_back r kind.Stub e.0 e.1 cost e.2 in
      (e.0, e.1, subst (λ j. HasLink A r kind.Stub j e.1 cost) x.1 x.2, e.3)

  -- ---- ways

  -- where a way ends at a network, the network stands for the prefix
  end_of : (root : RouterId) (p : Prefix) (w : Way A root p) (n : ℕ) → w.end ≡ vertex.Network n → IsEnd A p (vertex.Network n) 0
  end_of root p w n at = let e = subst (λ v. IsEnd A p v w.end_cost) at w.ends in (refl, e.1, e.2, e.3, e.4)

  end_named : (p : Prefix) (n : ℕ) → IsEnd A p (vertex.Network n) 0 → IsNetworkNamed A n
  end_named p n e = network_named n e.1 e.2 e.3

  same_ways : (root : RouterId) → HaveSameWays name A B root
  same_ways root =
      record {
        forth = λ p w. (
          record {
            listed = listed_to root w.listed;
            path = map (moved_edge name) w.path;
            end = moved name w.end;
            end_cost = w.end_cost;
            leads = path_to w.path (vertex.Router root) w.end w.leads;
            ends = end_to p w.end w.end_cost w.ends;
          },
          record { cost = ap (λ c. c + w.end_cost) (sym (cost_same name w.path)); hop = sym (hop_same name w.path); ends = refl },
        );
        back = λ p v.
            let x = path_back v.path (vertex.Router root) v.end tt v.leads in (
              record {
                listed = listed_from root v.listed;
                path = x.0;
                end = x.1;
                end_cost = v.end_cost;
                leads = x.5;
                ends = end_from p x.1 v.end_cost x.4 (subst (λ e. IsEnd B p e v.end_cost) (sym x.3) v.ends);
              },
              record {
                cost = ap (λ c. c + v.end_cost) (sym (cost_same name x.0) ∙ ap path_cost x.2);
                hop = sym (hop_same name x.0) ∙ ap hop_of x.2;
                ends = x.3;
              },
            );
        order = λ p w x m n at there.
            let here = end_of root p w m at in
            let far = end_of root p x n there in (
              is.order p m n here far,
              order_back m n (name m) (name n) (is.order p n m far here) (is.apart m n (end_named p m here) (end_named p n far)),
            );
      }

pub networks_are_but_names : (name : ℕ → ℕ) (owner : ℕ → RouterId → RouterId) (A : List Advertisement) → AreNames name owner A
    → (root : RouterId) (table : List Route) → IsTable A root table ↔ IsTable (renamed name owner A) root table
networks_are_but_names name owner A is root table = same_tables name A (B name owner A is) root (same_ways name owner A is root) table
