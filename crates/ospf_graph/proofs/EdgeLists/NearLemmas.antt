-- The edges that touch a vertex, by what the LSAs of its neighbours say.
use Rattle.std.proofs.Common.{◌≡◌, ◌⊎◌, ℕ, List, [], Result, Ok, Err, OnOk, refl, sym, ◌∙◌, ap, subst, inl, inr, arith}
use Rattle.std.specs.List.{Contains}
use Rattle.ospf_base.specs.declared.ids.RouterId.{RouterId}
use Rattle.ospf_lsa.specs.declared.link.Link.{Link}
use Rattle.ospf_lsa.specs.declared.link.LinkKind.{LinkKind}
use Rattle.ospf_graph.specs.declared.graph.Edge.{Edge}
use Rattle.ospf_graph.specs.declared.graph.Vertex.{Vertex}
use Rattle.ospf_graph.specs.declared.graph.Vertex.TheVariants.{Router, Network}
use Rattle.ospf_graph.specs.Advertisements.{Advertisement, HasLink, IsAttached, IsListed}
use Rattle.ospf_graph.specs.Graph.{IsEdge, IsEdgeBetween}
use Rattle.ospf_graph.proofs.ListLemmas.{transit_found}
use Rattle.ospf_graph.specs.Adds.{Adds}
use Rattle.ospf_graph.specs.EdgeLists.Costs.{HasLinkTo}
use Rattle.ospf_graph.specs.EdgeLists.Near.{AreEdgesAt, AreLinksBy, AreAttachedTo, HasNoNetwork, EdgesNear, LinkLeadsTo, LinksSend, MemberGives, NamesRouter, NearLink, NearLinks, NearMembers, Returns, SendsEdge, edge_to}
use Rattle.ospf_graph.proofs.EdgeLists.AddsLemmas.{adds_as, adds_none}
use Rattle.ospf_graph.proofs.EdgeLists.GivenLemmas.{link_as}

-- what holds of a result that is there
pub on_ok : {X E : Type 0} (r : Result X E) (P Q : Type 0) → (P → Q) → OnOk r P → OnOk r Q
on_ok (Ok x) P Q f p = f p
on_ok (Err e) P Q f p = tt

-- a link leads to one vertex
pub leads_one : (link : Link) (a b : Vertex) → LinkLeadsTo link a → LinkLeadsTo link b → a ≡ b
leads_one link (Router x) (Router y) h k = let same : x.0 ≡ y.0 = sym h.1 ∙ k.1 in λ i. Router (record { 0 = same i })
leads_one link (Router x) (Network n) h k = let one = h.0 in let other = k.0 in cc
leads_one link (Network n) (Router x) h k = let one = h.0 in let other = k.0 in cc
leads_one link (Network n) (Network m) h k = let same : n ≡ m = sym h.1 ∙ k.1 in ap Network same

module _ (A : List Advertisement) where
  -- a link of a router to a vertex that names it is an edge, and so is each edge that leaves a router
  sent_edge : (r : RouterId) (to : Vertex) (e : Edge) → SendsEdge r to A e → NamesRouter A to r → IsEdge A e
  sent_edge r (Router x) e (links, listed, (link, link_in, (leads, is))) named =
      let has : HasLink A r LinkKind.PointToPoint x.0 link.link_data link.metric =
      subst (λ n. HasLink A r LinkKind.PointToPoint n link.link_data link.metric) leads.1 (link_as A r links listed link link_in LinkKind.PointToPoint leads.0) in
      let edge : IsEdge A (edge_to r (Router x) link) = (has, named.0, named.1, named.2) in
      subst (λ y. IsEdge A y) (sym is) edge
  sent_edge r (Network n) e (links, listed, (link, link_in, (leads, is))) named =
      let has : HasLink A r LinkKind.Transit n link.link_data link.metric =
      subst (λ m. HasLink A r LinkKind.Transit m link.link_data link.metric) leads.1 (link_as A r links listed link link_in LinkKind.Transit leads.0) in
      let edge : IsEdge A (edge_to r (Network n) link) = (has, named) in
      subst (λ y. IsEdge A y) (sym is) edge

  edge_sent : (r : RouterId) (to : Vertex) (cost link_data : ℕ) → IsEdgeBetween A (Router r) to cost link_data
      → SendsEdge r to A (record { from = Router r; to = to; cost = cost; link_data = link_data })
  edge_sent r (Router x) cost link_data h = (h.0.links, h.0.listed, (_, h.0.link_in, ((refl, refl), refl)))
  edge_sent r (Network n) cost link_data h = (h.0.links, h.0.listed, (_, h.0.link_in, ((refl, refl), refl)))

  edge_named : (r : RouterId) (to : Vertex) (cost link_data : ℕ) → IsEdgeBetween A (Router r) to cost link_data → NamesRouter A to r
  edge_named r (Router x) cost link_data h = (h.1, h.2, h.3)
  edge_named r (Network n) cost link_data h = h.1

  -- the edge from a network that names the router
  member_edge : (n : ℕ) (r : RouterId) (e : Edge) → MemberGives n r A e → IsAttached A n r → IsEdge A e
  member_edge n r e g named =
      let edge : IsEdge A (record { from = Network n; to = Router r; cost = 0; link_data = g.0 }) = (refl, g.1, named) in
      subst (λ y. IsEdge A y) (sym g.2) edge

  member_to : (n : ℕ) (r : RouterId) (e : Edge) → MemberGives n r A e → e.to ≡ Router r
  member_to n r e g = ap (λ (y : Edge). y.to) g.2

  sent_to : (r : RouterId) (to : Vertex) (e : Edge) → SendsEdge r to A e → e.to ≡ to
  sent_to r to e g = ap (λ (y : Edge). y.to) g.2.2.1

  module _ (r : RouterId) (links : List Link) (are : AreLinksBy A r links) where
    own_link : (link : Link) → Contains links link → (x : RouterId) → LinkLeadsTo link (Router x) → HasLinkTo A r LinkKind.PointToPoint x.0
    own_link link link_in x leads = (
      link.link_data,
      link.metric,
      subst (λ n. HasLink A r LinkKind.PointToPoint n link.link_data link.metric) leads.1 (link_as A r links are.listed link link_in LinkKind.PointToPoint leads.0),
    )

    returned_edge : (link : Link) → Contains links link → (to : Vertex) → LinkLeadsTo link to → NamesRouter A to r → (e : Edge) → Returns to r A e → EdgesNear (Router r) A e
    returned_edge link link_in (Router x) leads named e g = (sent_edge x (Router r) e g (own_link link link_in x leads), inr (sent_to x (Router r) e g))
    returned_edge link link_in (Network n) leads named e g = (member_edge n r e g named, inr (member_to n r e g))

    near_edge : (e : Edge) → NearLinks r links A e → EdgesNear (Router r) A e
    near_edge e (link, link_in, (to, leads, named, inl is)) =
        subst (λ y. EdgesNear (Router r) A y) is (sent_edge r to (edge_to r to link) (links, are.listed, (link, link_in, (leads, refl))) named, inl refl)
    near_edge e (link, link_in, (to, leads, named, inr g)) = returned_edge link link_in to leads named e g

    out_near : (from to : Vertex) (cost link_data : ℕ) → IsEdgeBetween A from to cost link_data → from ≡ Router r
        → NearLinks r links A (record { from = from; to = to; cost = cost; link_data = link_data })
    out_near from to cost link_data h same =
        let g : IsEdgeBetween A (Router r) to cost link_data = subst (λ v. IsEdgeBetween A v to cost link_data) same h in
        let s = edge_sent r to cost link_data g in
        let near : NearLinks r links A (record { from = Router r; to = to; cost = cost; link_data = link_data }) =
        (s.2.0, subst (λ (ls : List Link). Contains ls s.2.0) (are.only s.0 s.1) s.2.1, (to, s.2.2.0, edge_named r to cost link_data g, inl (sym s.2.2.1))) in
        subst (λ v. NearLinks r links A (record { from = v; to = to; cost = cost; link_data = link_data })) (sym same) near

    in_by : (from : Vertex) (cost link_data : ℕ) → IsEdgeBetween A from (Router r) cost link_data
        → NearLinks r links A (record { from = from; to = Router r; cost = cost; link_data = link_data })
    in_by (Router x) cost link_data h =
        let own = h.3 in
        let link : Link = record { id = x.0; link_data = h.1; kind = LinkKind.PointToPoint; metric = h.2 } in
        (link, subst (λ (ls : List Link). Contains ls link) (are.only own.links own.listed) own.link_in, (Router x, (refl, refl), (link_data, cost, h.0), inr (edge_sent x (Router r) cost link_data h)))
    in_by (Network n) cost link_data h =
        let on = h.1 in
        let found = transit_found n on.links link_data on.first in
        let link : Link = record { id = n; link_data = link_data; kind = LinkKind.Transit; metric = found.0 } in
        (link, subst (λ (ls : List Link). Contains ls link) (are.only on.links on.listed) found.1, (Network n, (refl, refl), h.2, inr (link_data, on, λ i. record { from = Network n; to = Router r; cost = h.0 i; link_data = link_data })))

    in_near : (from to : Vertex) (cost link_data : ℕ) → IsEdgeBetween A from to cost link_data → to ≡ Router r
        → NearLinks r links A (record { from = from; to = to; cost = cost; link_data = link_data })
    in_near from to cost link_data h same =
        subst (λ v. NearLinks r links A (record { from = from; to = v; cost = cost; link_data = link_data })) (sym same)
        (in_by from cost link_data (subst (λ v. IsEdgeBetween A from v cost link_data) same h))

    pub router_near : (old new : List Edge) → Adds (NearLinks r links A) old new → Adds (EdgesNear (Router r) A) old new
    router_near old new =
        adds_as (NearLinks r links A) (EdgesNear (Router r) A) old new
        (λ e. (near_edge e, λ h. elim h.1 [ inl leaves ↦ out_near e.from e.to e.cost e.link_data h.0 leaves | inr enters ↦ in_near e.from e.to e.cost e.link_data h.0 enters ]))

  module _ (n : ℕ) (attached : List RouterId) (are : AreAttachedTo A n attached) where
    attached_in : (member : RouterId) → Contains attached member → IsAttached A n member
    attached_in member m = record { mask = are.mask; attached = attached; network = are.network; names = m }

    member_in : (member : RouterId) → IsAttached A n member → Contains attached member
    member_in member is = subst (λ (rs : List RouterId). Contains rs member) (are.only is.mask is.attached is.network) is.names

    near_network_edge : (e : Edge) → NearMembers n attached A e → EdgesNear (Network n) A e
    near_network_edge e (member, m, inl g) = (member_edge n member e g (attached_in member m), inl (ap (λ (y : Edge). y.from) g.2))
    near_network_edge e (member, m, inr g) = (sent_edge member (Network n) e g (attached_in member m), inr (sent_to member (Network n) e g))

    from_network : (to : Vertex) (cost link_data : ℕ) → IsEdgeBetween A (Network n) to cost link_data
        → NearMembers n attached A (record { from = Network n; to = to; cost = cost; link_data = link_data })
    from_network (Router b) cost link_data h =
        (b, member_in b h.2, inl (link_data, h.1, λ i. record { from = Network n; to = Router b; cost = h.0 i; link_data = link_data }))
    from_network (Network m) cost link_data h = absurd h

    to_network : (from : Vertex) (cost link_data : ℕ) → IsEdgeBetween A from (Network n) cost link_data
        → NearMembers n attached A (record { from = from; to = Network n; cost = cost; link_data = link_data })
    to_network (Router a) cost link_data h = (a, member_in a h.1, inr (edge_sent a (Network n) cost link_data h))
    to_network (Network m) cost link_data h = absurd h

    network_edge_near : (from to : Vertex) (cost link_data : ℕ) → IsEdgeBetween A from to cost link_data → (from ≡ Network n) ⊎ (to ≡ Network n)
        → NearMembers n attached A (record { from = from; to = to; cost = cost; link_data = link_data })
    network_edge_near from to cost link_data h (inl same) =
        subst (λ v. NearMembers n attached A (record { from = v; to = to; cost = cost; link_data = link_data })) (sym same)
        (from_network to cost link_data (subst (λ v. IsEdgeBetween A v to cost link_data) same h))
    network_edge_near from to cost link_data h (inr same) =
        subst (λ v. NearMembers n attached A (record { from = from; to = v; cost = cost; link_data = link_data })) (sym same)
        (to_network from cost link_data (subst (λ v. IsEdgeBetween A from v cost link_data) same h))

    pub network_near : (old new : List Edge) → Adds (NearMembers n attached A) old new → Adds (EdgesNear (Network n) A) old new
    network_near old new =
        adds_as (NearMembers n attached A) (EdgesNear (Network n) A) old new
        (λ e. (near_network_edge e, λ h. network_edge_near e.from e.to e.cost e.link_data h.0 h.1))

  no_network_from : (n : ℕ) → HasNoNetwork A n → (to : Vertex) (cost link_data : ℕ) → IsEdgeBetween A (Network n) to cost link_data → ⊥
  no_network_from n none (Router b) cost link_data h = let at = h.2 in none at.mask at.attached at.network
  no_network_from n none (Network m) cost link_data h = absurd h

  no_network_to : (n : ℕ) → HasNoNetwork A n → (from : Vertex) (cost link_data : ℕ) → IsEdgeBetween A from (Network n) cost link_data → ⊥
  no_network_to n none (Router a) cost link_data h = let at = h.1 in none at.mask at.attached at.network
  no_network_to n none (Network m) cost link_data h = absurd h

  pub network_not_near : (n : ℕ) → HasNoNetwork A n → (old : List Edge) → Adds (EdgesNear (Network n) A) old old
  network_not_near n none old =
      adds_none (EdgesNear (Network n) A) old (λ e h. elim h.1 [
        | inl leaves ↦ no_network_from n none e.to e.cost e.link_data (subst (λ v. IsEdgeBetween A v e.to e.cost e.link_data) leaves h.0)
        | inr enters ↦ no_network_to n none e.from e.cost e.link_data (subst (λ v. IsEdgeBetween A e.from v e.cost e.link_data) enters h.0)
      ])

  -- what the links of the router's one LSA send
  pub sends_as : (r : RouterId) (to : Vertex) (links : List Link) → AreLinksBy A r links → (old new : List Edge) → Adds (LinksSend r to links) old new → Adds (SendsEdge r to A) old new
  sends_as r to links are old new =
      adds_as (LinksSend r to links) (SendsEdge r to A) old new
      (λ e. (λ g. (links, are.listed, g), λ g. (g.2.0, subst (λ (ls : List Link). Contains ls g.2.0) (are.only g.0 g.1) g.2.1, g.2.2)))

  -- and what one link brings
  pub near_link_as : (r : RouterId) (link : Link) (to : Vertex) → LinkLeadsTo link to → NamesRouter A to r → (old new : List Edge)
      → Adds (λ e. (edge_to r to link ≡ e) ⊎ Returns to r A e) old new → Adds (NearLink r link A) old new
  near_link_as r link to leads named old new =
      adds_as (λ e. (edge_to r to link ≡ e) ⊎ Returns to r A e) (NearLink r link A) old new (λ e. (
        λ g. (to, leads, named, g),
        λ g. subst (λ v. (edge_to r v link ≡ e) ⊎ Returns v r A e) (leads_one link g.0 to g.1 leads) g.3,
      ))

  pub edges_near : (v : Vertex) (edges : List Edge) → Adds (EdgesNear v A) [] edges → AreEdgesAt A v edges
  edges_near v edges h e = (
    λ m. elim ((h e).0 m) [ inl none ↦ absurd (let few = none.1 in omega arith) | inr near ↦ near ],
    λ near. (h e).1 (inr near),
  )
