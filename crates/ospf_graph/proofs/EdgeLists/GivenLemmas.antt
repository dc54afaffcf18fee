-- What the LSAs of a listing give are its edges and ends.
use Rattle.std.proofs.Common.{◌≡◌, ◌+◌, ◌<◌, ◌↔◌, ℕ, List, [], ◌∷◌, ◌++◌, length, map, take, get_or, refl, sym, ◌∙◌, ap, subst, inl, inr, arith}
use Rattle.std.proofs.lemmas.List.{take_more, map-append}
use Rattle.std.specs.List.{Contains}
use Rattle.ospf_base.specs.declared.ids.RouterId.{RouterId}
use Rattle.ospf_base.specs.declared.prefix.Prefix.{Prefix}
use Rattle.ospf_base.specs.Prefixes.{IsPrefixOf}
use Rattle.ospf_base.proofs.PrefixLaws.{prefix_one}
use Rattle.ospf_base.specs.Masks.{IsMask}
use Rattle.ospf_base.specs.Bytes.{number_at}
use Rattle.ospf_lsa.specs.Lsa.{IsRouterLsa, IsNetworkLsa, links_of, attached_of, network_mask_of}
use Rattle.ospf_lsa.specs.declared.link.Link.{Link}
use Rattle.ospf_lsa.specs.declared.link.LinkKind.{LinkKind}
use Rattle.ospf_graph.specs.declared.graph.Edge.{Edge}
use Rattle.ospf_graph.specs.declared.graph.Vertex.{Vertex}
use Rattle.ospf_graph.specs.declared.graph.Vertex.TheVariants.{Router, Network}
use Rattle.ospf_graph.specs.Advertisements.{Advertisement, router_lsa, network_lsa, HasLink, IsAddressOn}
use Rattle.ospf_graph.specs.Graph.{IsEdge, IsEdgeBetween}
use Rattle.ospf_graph.specs.Routes.{IsEnd}
use Rattle.ospf_graph.proofs.ListLemmas.{member_of_map, member_to_map}
use Rattle.ospf_graph.specs.declared.edges.end.End.{End}
use Rattle.ospf_graph.specs.EdgeLists.Listed.{advertisement_of, advertisements_of}
use Rattle.ospf_graph.specs.Adds.{Adds}
use Rattle.ospf_graph.specs.EdgeLists.Given.{StandsFor, AttachedGives, EdgesOf, EndsOf, StubGives, NetworkGives, link_count}
use Rattle.ospf_graph.specs.EdgeLists.Given.{IsEdgesOf, IsEndsOf}
use Rattle.ospf_graph.proofs.EdgeLists.AddsLemmas.{GivenBy, adds_as, adds_none}
use Rattle.ospf_graph.proofs.EdgeLists.ListedLemmas.{router_of, network_of}

module _ (A : List Advertisement) where
  edge_given : (from to : Vertex) (cost link_data : ℕ) → IsEdgeBetween A from to cost link_data
      → (x : Advertisement) × Contains A x × EdgesOf A x (record { from = from; to = to; cost = cost; link_data = link_data })
  edge_given (Router a) (Router b) cost link_data e =
      (router_lsa a e.0.links, e.0.listed, (_, e.0.link_in, inl (refl, (e.1, e.2, e.3), refl)))
  edge_given (Router a) (Network n) cost link_data e =
      (router_lsa a e.0.links, e.0.listed, (_, e.0.link_in, inr (refl, e.1, refl)))
  edge_given (Network n) (Router b) cost link_data e =
      let at = e.2 in (
        network_lsa n at.network.router at.mask at.attached,
        at.network.listed,
        (at.network.largest, b, at.names, (link_data, e.1, λ i. record { from = Network n; to = Router b; cost = e.0 i; link_data = link_data })),
      )
  edge_given (Network n) (Network m) cost link_data e = absurd e

  -- the link with the kind that it is known to have
  pub link_as : (a : RouterId) (links : List Link) → Contains A (router_lsa a links) → (link : Link) → Contains links link → (kind : LinkKind) → link.kind ≡ kind
      → HasLink A a kind link.id link.link_data link.metric
  link_as a links listed link link_in kind is =
      record {
        links = links;
        listed = listed;
        link_in = subst (λ k. Contains links (record { id = link.id; link_data = link.link_data; kind = k; metric = link.metric })) is link_in;
      }

  given_edge : (x : Advertisement) → Contains A x → (e : Edge) → EdgesOf A x e → IsEdge A e
  given_edge (router_lsa a links) listed e (link, link_in, inl g) =
      let is : IsEdge A (record { from = Router a; to = Router (record { 0 = link.id }); cost = link.metric; link_data = link.link_data }) =
      (link_as a links listed link link_in LinkKind.PointToPoint g.0, g.1.0, g.1.1, g.1.2) in
      subst (λ x. IsEdge A x) (sym g.2) is
  given_edge (router_lsa a links) listed e (link, link_in, inr g) =
      let is : IsEdge A (record { from = Router a; to = Network link.id; cost = link.metric; link_data = link.link_data }) =
      (link_as a links listed link link_in LinkKind.Transit g.0, g.1) in
      subst (λ x. IsEdge A x) (sym g.2) is
  given_edge (network_lsa n router mask attached) listed e g =
      let is : IsEdge A (record { from = Network n; to = Router g.1; cost = 0; link_data = g.3.0 }) =
      (refl, g.3.1, record { mask = mask; attached = attached; network = record { router = router; listed = listed; largest = g.0 }; names = g.2 }) in
      subst (λ x. IsEdge A x) (sym g.3.2) is

  pub given_end : (x : Advertisement) → Contains A x → (e : End) → EndsOf A x e → IsEnd A e.prefix e.vertex e.cost
  given_end (router_lsa r links) listed e h =
      let link = h.0 in
      let g = h.2 in
      let is : IsEnd A g.1 (Router r) link.metric = (link.id, link.link_data, link_as r links listed link h.1 LinkKind.Stub g.0, g.2) in
      subst (λ y. IsEnd A y.prefix y.vertex y.cost) (sym g.3) is
  given_end (network_lsa n r mask attached) listed e h =
      let g = h.1 in
      let is : IsEnd A g.0 (Network n) 0 = (refl, mask, attached, record { router = r; listed = listed; largest = h.0 }, g.1) in
      subst (λ y. IsEnd A y.prefix y.vertex y.cost) (sym g.2) is

  end_given : (p : Prefix) (v : Vertex) (c : ℕ) → IsEnd A p v c → (x : Advertisement) × Contains A x × EndsOf A x (record { prefix = p; vertex = v; cost = c })
  end_given p (Router r) c h = (
    router_lsa r h.2.links,
    h.2.listed,
    (record { id = h.0; link_data = h.1; kind = LinkKind.Stub; metric = c }, h.2.link_in, (refl, p, h.3, refl)),
  )
  end_given p (Network n) c h =
      (network_lsa n h.3.router h.1 h.2, h.3.listed, (h.3.largest, (p, h.4, λ i. record { prefix = p; vertex = Network n; cost = h.0 i })))

-- what all LSAs give is all that there is
module _ (lsas : List (List ℕ)) where
  pub edges_are : (edges : List Edge) → Adds (GivenBy (λ lsa. EdgesOf (advertisements_of lsas) (advertisement_of lsa)) lsas) [] edges → IsEdgesOf (advertisements_of lsas) edges
  unfolding advertisements_of
  edges_are edges h e = (
    λ m. elim ((h e).0 m) [
      | inl none ↦ absurd (let low = none.1 in omega arith)
      | inr g ↦ given_edge (advertisements_of lsas) (advertisement_of g.0) (member_to_map advertisement_of lsas g.0 g.1) e g.2
    ],
    λ is.
        let g = edge_given (advertisements_of lsas) e.from e.to e.cost e.link_data is in
        let y = member_of_map advertisement_of lsas g.0 g.1 in
        (h e).1 (inr (y.0, y.1, subst (λ x. EdgesOf (advertisements_of lsas) x e) (sym y.2) g.2)),
  )

  pub ends_are : (ends : List End) → Adds (GivenBy (λ lsa. EndsOf (advertisements_of lsas) (advertisement_of lsa)) lsas) [] ends → IsEndsOf (advertisements_of lsas) ends
  unfolding advertisements_of
  ends_are ends h e = (
    λ m. elim ((h e).0 m) [
      | inl none ↦ absurd (let low = none.1 in omega arith)
      | inr g ↦ given_end (advertisements_of lsas) (advertisement_of g.0) (member_to_map advertisement_of lsas g.0 g.1) e g.2
    ],
    λ is.
        let g = end_given (advertisements_of lsas) e.prefix e.vertex e.cost is in
        let y = member_of_map advertisement_of lsas g.0 g.1 in
        (h e).1 (inr (y.0, y.1, subst (λ x. EndsOf (advertisements_of lsas) x e) (sym y.2) g.2)),
  )

-- one prefix, one end
pub stub_is : (router : RouterId) (link : Link) (p : Prefix) → link.kind ≡ LinkKind.Stub → IsPrefixOf link.id link.link_data p
    → (e : End) → StubGives router link e ↔ (let x : End = record { prefix = p; vertex = Router router; cost = link.metric } in x ≡ e)
stub_is router link p kind is e = (
  λ h. ap (λ q. record { prefix = q; vertex = Router router; cost = link.metric }) (prefix_one link.id link.link_data p h.1 is h.2) ∙ sym h.3,
  λ same. (kind, p, is, sym same),
)

pub network_is : (n mask : ℕ) (p : Prefix) → IsPrefixOf n mask p
    → (e : End) → NetworkGives n mask e ↔ (let x : End = record { prefix = p; vertex = Network n; cost = 0 } in x ≡ e)
network_is n mask p is e = (
  λ h. ap (λ q. record { prefix = q; vertex = Network n; cost = 0 }) (prefix_one n mask p h.0 is h.1) ∙ sym h.2,
  λ same. (p, is, sym same),
)

-- ---- by the LSA that gives

module _ {Y : Type 0} (P : Advertisement → Y → Type 0) (lsa : List ℕ) (old new : List Y) where
  -- what the parts of a router-LSA, or of a network-LSA, add
  pub as_router : (router : RouterId) (links : List Link) → IsRouterLsa lsa → router.0 ≡ number_at 8 4 lsa → links ≡ links_of lsa
      → Adds (P (router_lsa router links)) old new → Adds (P (advertisement_of lsa)) old new
  as_router router links is names links_are h =
      let at : router_lsa router links ≡ advertisement_of lsa = (λ i. router_lsa (record { 0 = names i }) (links_are i)) ∙ sym (router_of lsa is) in
      subst (λ x. Adds (P x) old new) at h

  pub as_network : (n : ℕ) (router : RouterId) → IsNetworkLsa lsa → n ≡ number_at 4 4 lsa → router.0 ≡ number_at 8 4 lsa
      → Adds (P (network_lsa n router (network_mask_of lsa) (attached_of lsa))) old new → Adds (P (advertisement_of lsa)) old new
  as_network n router is id names h =
      let at : network_lsa n router (network_mask_of lsa) (attached_of lsa) ≡ advertisement_of lsa =
      (λ i. network_lsa (id i) (record { 0 = names i }) (network_mask_of lsa) (attached_of lsa)) ∙ sym (network_of lsa is) in
      subst (λ x. Adds (P x) old new) at h

module _ (A : List Advertisement) (n : ℕ) (router : RouterId) (mask : ℕ) (attached : List RouterId) where
  pub members_add : (old new : List Edge) → StandsFor A n router → Adds (GivenBy (AttachedGives A n) attached) old new → Adds (EdgesOf A (network_lsa n router mask attached)) old new
  members_add old new stands h =
      adds_as (GivenBy (AttachedGives A n) attached) (EdgesOf A (network_lsa n router mask attached)) old new
      (λ e. ((λ g. (stands, g.0, g.1, g.2)), (λ g. (g.1, g.2, g.3)))) h

  pub no_members : (old : List Edge) → (StandsFor A n router → ⊥) → Adds (EdgesOf A (network_lsa n router mask attached)) old old
  no_members old not = adds_none (EdgesOf A (network_lsa n router mask attached)) old (λ e g. not g.0)

  pub network_adds : (old new : List End) → StandsFor A n router → Adds (NetworkGives n mask) old new → Adds (EndsOf A (network_lsa n router mask attached)) old new
  network_adds old new stands h =
      adds_as (NetworkGives n mask) (EndsOf A (network_lsa n router mask attached)) old new (λ e. ((λ g. (stands, g)), (λ g. g.1))) h

  pub no_network : (old : List End) → (StandsFor A n router → ⊥) → Adds (EndsOf A (network_lsa n router mask attached)) old old
  no_network old not = adds_none (EndsOf A (network_lsa n router mask attached)) old (λ e g. not g.0)

-- the edge to a router with this one address
pub member_is : (A : List Advertisement) (n : ℕ) (member : RouterId) (address : ℕ) → IsAddressOn A n member address → ((other : ℕ) → IsAddressOn A n member other → other ≡ address)
    → (e : Edge) → AttachedGives A n member e ↔ (let x : Edge = record { from = Network n; to = Router member; cost = 0; link_data = address } in x ≡ e)
member_is A n member address on only e = (
  λ h. ap (λ a. record { from = Network n; to = Router member; cost = 0; link_data = a }) (sym (only h.0 h.1)) ∙ sym h.2,
  λ same. (address, on, sym same),
)

-- one LSA more
pub told_more : (lsas : List (List ℕ)) (i : ℕ) (x : List ℕ) → i < length lsas → x ≡ get_or lsas i x
    → map advertisement_of (take (i + 1) lsas) ≡ map advertisement_of (take i lsas) ++ advertisement_of x ∷ []
told_more lsas i x lt is =
    ap (λ l. map advertisement_of l) (take_more lsas i x lt ∙ ap (λ y. take i lsas ++ y ∷ []) (sym is)) ∙ map-append advertisement_of (take i lsas) (x ∷ [])

-- links of one LSA more
link_count-push : (A : List Advertisement) (x : Advertisement) → link_count (A ++ x ∷ []) ≡ link_count A + link_count (x ∷ [])
link_count-push [] x = omega arith
link_count-push (router_lsa r links ∷ rest) x = let ih = link_count-push rest x in omega arith
link_count-push (network_lsa n r mask attached ∷ rest) x = let ih = link_count-push rest x in omega arith

pub links_more : (lsas : List (List ℕ)) (i : ℕ) (x : List ℕ) → i < length lsas → x ≡ get_or lsas i x
    → link_count (map advertisement_of (take (i + 1) lsas)) ≡ link_count (map advertisement_of (take i lsas)) + link_count (advertisement_of x ∷ [])
links_more lsas i x lt is = ap link_count (told_more lsas i x lt is) ∙ link_count-push (map advertisement_of (take i lsas)) (advertisement_of x)
