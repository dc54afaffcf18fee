-- The other router on the network of a stub router.
use Rattle.std.proofs.Common.{◌≡◌, ◌⊎◌, ◌↔◌, ◌∙◌, [], ℕ, List, refl, slice_index_or, sym, ap, subst, inl, inr, arith}
use Rattle.std.proofs.lemmas.List.Elements.{All-contains, All-contains_itself}
use Rattle.std.specs.List.{All, Contains}
use Rattle.ospf_base.specs.declared.ids.RouterId.{RouterId}
use Rattle.ospf_graph.specs.EdgeLists.Given.{IsEdgesOf}
use Rattle.ospf_graph.specs.EdgeLists.Near.{AreEdgesAt}
use Rattle.ospf_graph.specs.Adds.{Adds}
use Rattle.ospf_graph.specs.Advertisements.{Advertisement}
use Rattle.ospf_graph.specs.Graph.{IsEdge, IsEdgeBetween}
use Rattle.ospf_graph.specs.declared.graph.Edge.{Edge}
use Rattle.ospf_graph.specs.declared.graph.Vertex.{Vertex}
use Rattle.ospf_graph.specs.declared.graph.Vertex.TheVariants as vertex
use Rattle.ospf_harm.specs.Hidden.{AreHidden, HiddenGiven, IsOfTwo, IsOneOfTwo, OtherGiven}
use Rattle.ospf_whatif.specs.Single.{GivenBy, IsOn}
use Rattle.ospf_harm.specs.declared.hidden.HiddenCost.{HiddenCost}

abbrev pub named : RouterId → ℕ → RouterId → HiddenCost
named router network other = record { router = router; network = network; other = other }

-- ---- one edge at the network

module _ (near : List Edge) (router other : RouterId) (network : ℕ) (e : Edge) (from : e.from ≡ vertex.Router other) (to : e.to ≡ vertex.Network network) where
  pub one_other : (other ≡ router → ⊥) → All (IsOfTwo router other network) near → (h : HiddenCost) → (h ≡ named router network other) ↔ OtherGiven near router network e h
  one_other apart two h = (
    λ is. subst (OtherGiven near router network e) (sym is) (refl, refl, from, to, apart, two),
    λ g.
        let same : h.other ≡ other = (let both : vertex.Router h.other ≡ vertex.Router other = sym g.2 ∙ from in cc) in
        λ i. record { router = g.0 i; network = g.1 i; other = same i },
  )

  pub no_other : (All (IsOfTwo router other network) near → other ≡ router → ⊥) → (All (IsOfTwo router other network) near → ⊥) ⊎ (other ≡ router) → (h : HiddenCost)
      → OtherGiven near router network e h → ⊥
  no_other f none h g =
      let same : h.other ≡ other = (let both : vertex.Router h.other ≡ vertex.Router other = sym g.2 ∙ from in cc) in
      elim none [
        | inl third ↦ third (subst (λ o. All (IsOfTwo router o network) near) same g.5)
        | inr own ↦ g.4 (same ∙ own)
      ]

-- ---- all edges at the network

module _ (A : List Advertisement) (near : List Edge) (router : RouterId) (network : ℕ) (at : AreEdgesAt A (vertex.Network network) near) where
  abbrev Here : HiddenCost → Type 0
  Here h = (h.router ≡ router) × (h.network ≡ network) × IsOneOfTwo A h

  abbrev edge_of : (r : RouterId) (cost address : ℕ) → Edge
  edge_of r cost address = record { from = vertex.Router r; to = vertex.Network network; cost = cost; link_data = address }

  to_here : (h : HiddenCost) → GivenBy (OtherGiven near router network) near h → Here h
  to_here h g =
      let e : Edge = g.0 in
      let o = g.2 in
      let is : IsEdge A e = ((at e).0 g.1).0 in
      let over : IsEdgeBetween A (vertex.Router h.other) (vertex.Network h.network) e.cost e.link_data =
      subst (λ v. IsEdgeBetween A v (vertex.Network h.network) e.cost e.link_data) o.2
      (subst (λ v. IsEdgeBetween A e.from v e.cost e.link_data) (o.3 ∙ ap (λ n. vertex.Network n) (sym o.1)) is) in (
        o.0,
        o.1,
        record {
          on = (e.cost, e.link_data, over);
          apart = λ same. o.4 (same ∙ o.0);
          only = λ r on.
              let there : Edge = edge_of r on.0 on.1 in
              let here : IsEdge A there = subst (λ n. IsEdgeBetween A (vertex.Router r) (vertex.Network n) on.0 on.1) o.1 on.2 in
              let one = All-contains (IsOfTwo router h.other network) near there o.5 ((at there).1 (here, inr refl)) refl in
              elim one [
                | inl own ↦ inl (let same : r ≡ router = cc in same ∙ sym o.0)
                | inr other ↦ inr (let same : r ≡ h.other = cc in same)
              ];
        },
      )

  from_here : (h : HiddenCost) → Here h → GivenBy (OtherGiven near router network) near h
  from_here h w =
      let two = w.2 in
      let e : Edge = edge_of h.other two.on.0 two.on.1 in
      let is : IsEdge A e = subst (λ n. IsEdgeBetween A (vertex.Router h.other) (vertex.Network n) two.on.0 two.on.1) w.1 two.on.2 in
      let only : (x : Edge) → Contains near x → IsOfTwo router h.other network x = λ x m to. (of_edge x (((at x).0 m).0) to) in (
        e,
        (at e).1 (is, inr refl),
        (
          w.0,
          w.1,
          refl,
          refl,
          (λ same. two.apart (same ∙ sym w.0)),
          (λ k d lt. only (slice_index_or near k d) (All-contains_itself near k d lt)),
        ),
      )
    where
      of_edge : (x : Edge) → IsEdge A x → x.to ≡ vertex.Network network → (x.from ≡ vertex.Router router) ⊎ (x.from ≡ vertex.Router h.other)
      of_edge x is to = by_from x.from refl
        where
          by_from : (v : Vertex) → x.from ≡ v → (x.from ≡ vertex.Router router) ⊎ (x.from ≡ vertex.Router h.other)
          by_from (vertex.Network n) from = absurd (subst (λ v. IsEdgeBetween A v (vertex.Network network) x.cost x.link_data) from (subst (λ v. IsEdgeBetween A x.from v x.cost x.link_data) to is))
          by_from (vertex.Router r) from =
              let over : IsEdgeBetween A (vertex.Router r) (vertex.Network network) x.cost x.link_data =
              subst (λ v. IsEdgeBetween A v (vertex.Network network) x.cost x.link_data) from (subst (λ v. IsEdgeBetween A x.from v x.cost x.link_data) to is) in
              let on : IsOn A r h.network = subst (λ n. IsOn A r n) (sym w.1) (x.cost, x.link_data, over) in
              elim (w.2.only r on) [
                | inl own ↦ inl (from ∙ ap (λ q. vertex.Router q) (own ∙ w.0))
                | inr other ↦ inr (from ∙ ap (λ q. vertex.Router q) other)
              ]

  pub others_given : (e : Edge) → e.from ≡ vertex.Router router → e.to ≡ vertex.Network network → e.cost ≡ 65535
      → (h : HiddenCost) → GivenBy (OtherGiven near router network) near h ↔ HiddenGiven A e h
  others_given e from to cost h = (
    λ g. let w = to_here h g in (from ∙ ap (λ r. vertex.Router r) (sym w.0), to ∙ ap (λ n. vertex.Network n) (sym w.1), cost, w.2),
    λ g.
        let one : h.router ≡ router = (let both : vertex.Router h.router ≡ vertex.Router router = sym g.0 ∙ from in cc) in
        let net : h.network ≡ network = (let both : vertex.Network h.network ≡ vertex.Network network = sym g.1 ∙ to in cc) in
        from_here h (one, net, g.3),
  )

-- ---- all edges of the area

pub are_hidden : (A : List Advertisement) (edges : List Edge) (hidden : List HiddenCost) → IsEdgesOf A edges → Adds (GivenBy (HiddenGiven A) edges) [] hidden → AreHidden A hidden
are_hidden A edges hidden are adds h = (
  λ m. elim ((adds h).0 m) [
    | inl none ↦ absurd (let low = none.1 in omega arith)
    | inr g ↦
        (let e : Edge = g.0 in
        let o = g.2 in
        let is : IsEdge A e = (are e).0 g.1 in
        let over : IsEdgeBetween A (vertex.Router h.router) (vertex.Network h.network) e.cost e.link_data =
        subst (λ v. IsEdgeBetween A v (vertex.Network h.network) e.cost e.link_data) o.0 (subst (λ v. IsEdgeBetween A e.from v e.cost e.link_data) o.1 is) in
        record { address = e.link_data; edge = subst (λ c. IsEdgeBetween A (vertex.Router h.router) (vertex.Network h.network) c e.link_data) o.2 over; two = o.3 })
  ],
  λ is.
      let e : Edge = record { from = vertex.Router h.router; to = vertex.Network h.network; cost = 65535; link_data = is.address } in
      (adds h).1 (inr (e, (are e).1 is.edge, (refl, refl, refl, is.two))),
)
