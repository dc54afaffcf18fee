-- Shortest paths that are kept while edges come.
use Rattle.std.proofs.Common.{◌≡◌, ◌+◌, ◌<◌, ◌≤◌, ◌⊎◌, ◌≢◌, ℕ, List, [], ◌∷◌, ◌++◌, sym, ◌∙◌, ap, subst, inl, inr, arith}
use Rattle.ospf_graph.specs.declared.graph.Edge.{Edge}
use Rattle.ospf_graph.specs.declared.graph.Vertex.{Vertex}
use Rattle.ospf_graph.specs.declared.graph.Start.{Start}
use Rattle.ospf_graph.specs.declared.graph.Start.TheVariants.{Here}
use Rattle.ospf_graph.specs.Graph.{IsPath, path_cost}
use Rattle.ospf_spf.specs.IncrementalSpf.Growth.{Improves, IsGrowing, IsOwed, IsRelaxed, NoneWaits}
use Rattle.ospf_graph.specs.Tree.{extend, IsTree}
use Rattle.ospf_graph.proofs.CandidateLemmas.{same_or_other}
use Rattle.ospf_graph.proofs.SearchLemmas.{IsPath-push, path_cost-push, start_from-push}
use Rattle.ospf_graph.proofs.TreeLemmas.{IsPath-map}

pub less_or_level : (a b : ℕ) → a ≤ b → (a < b) ⊎ (a ≡ b)
less_or_level a b le = grind arith

-- with no edge that waits it is a tree
pub grown : (is_edge : Edge → Type 0) (root : Vertex) (At : Vertex → ℕ → Type 0) (Starts : Vertex → Start → Type 0) (Waits : Edge → Type 0)
    → IsGrowing is_edge is_edge root At Starts Waits → ((e : Edge) → Waits e → ⊥) → IsTree is_edge root At Starts
grown is_edge root At Starts Waits g none =
    let relaxed : (e : Edge) (d : ℕ) → is_edge e → At e.from d → IsRelaxed At Starts e d =
    λ e d is at. elim (g.owed e d is at) [ inl w ↦ absurd (none e w) | inr r ↦ r ] in
    record {
      one = g.one;
      root_at = g.root_at;
      root_start = g.root_start;
      path_of = g.path_of;
      path_with = g.path_with;
      relaxed = λ e d is at. elim (relaxed e d is at) [
        | inl near ↦ (near.0, near.2, (let lt = near.1 in omega arith))
        | inr level ↦ (d + e.cost, level.0, omega arith)
      ];
      spread = λ e d x is at end has. elim (relaxed e d is at) [
        | inl near ↦ absurd (let same = g.one e.to near.0 (d + e.cost) near.2 end in let lt = near.1 in omega arith)
        | inr level ↦ level.1 x has
      ];
    }

-- a tree, of whose edges none went; those that came wait
pub begun : (was is_edge : Edge → Type 0) (root : Vertex) (At : Vertex → ℕ → Type 0) (Starts : Vertex → Start → Type 0) (Waits : Edge → Type 0)
    → IsTree was root At Starts → ((e : Edge) → was e → is_edge e) → ((e : Edge) → Waits e → is_edge e)
    → ((e : Edge) (d : ℕ) → is_edge e → At e.from d → was e ⊎ IsOwed At Starts Waits e d)
    → IsGrowing is_edge is_edge root At Starts Waits
begun was is_edge root At Starts Waits t stays waiting came =
    record {
      one = t.one;
      root_at = t.root_at;
      root_start = t.root_start;
      path_of = λ v d at. let p = t.path_of v d at in (p.0, IsPath-map was is_edge stays p.0 root v p.1, p.2);
      path_with = λ v x has. let p = t.path_with v x has in (p.0, IsPath-map was is_edge stays p.0 root v p.1, p.2, p.3);
      within = λ e is. is;
      waiting = waiting;
      owed = λ e d is at. elim (came e d is at) [
        | inr owed ↦ owed
        | inl old ↦
            let r = t.relaxed e d old at in
            elim (less_or_level r.0 (d + e.cost) r.2) [
              | inl lt ↦ inr (inl (r.0, lt, r.1))
              | inr level ↦
                  let end : At e.to (d + e.cost) = rw level at r.1 in
                  inr (inr (end, λ x has. t.spread e d x old at end has))
            ]
      ];
    }

-- once none waits
pub settled : (is_edge is_seen : Edge → Type 0) (root : Vertex) (At : Vertex → ℕ → Type 0) (Starts : Vertex → Start → Type 0) (Waits : Edge → Type 0)
    → IsGrowing is_edge is_seen root At Starts Waits → ((e : Edge) → Waits e → ⊥) → IsGrowing is_edge is_seen root At Starts NoneWaits
settled is_edge is_seen root At Starts Waits g none =
    record {
      one = g.one;
      root_at = g.root_at;
      root_start = g.root_start;
      path_of = g.path_of;
      path_with = g.path_with;
      within = g.within;
      waiting = λ e no. absurd no;
      owed = λ e d is at. elim (g.owed e d is at) [ inl w ↦ absurd (none e w) | inr r ↦ inr r ];
    }

module _ (is_edge is_seen : Edge → Type 0) (root : Vertex) (At : Vertex → ℕ → Type 0) (Starts : Vertex → Start → Type 0) (Waits Waits' : Edge → Type 0)
    (g : IsGrowing is_edge is_seen root At Starts Waits) (e : Edge) (is : is_edge e) (keeps : (f : Edge) → Waits f → Waits' f ⊎ (f ≡ e)) where
  -- an edge that owes nothing is taken
  pub seen : ((f : Edge) → Waits' f → Waits f) → ((d : ℕ) → At e.from d → IsRelaxed At Starts e d) → IsGrowing is_edge is_seen root At Starts Waits'
  seen back relaxed =
      record {
        one = g.one;
        root_at = g.root_at;
        root_start = g.root_start;
        path_of = g.path_of;
        path_with = g.path_with;
        within = g.within;
        waiting = λ f w. g.waiting f (back f w);
        owed = λ f d is_f at. elim (g.owed f d is_f at) [
          | inl w ↦ elim (keeps f w) [
            | inl stays ↦ inl stays
            | inr same ↦ inr (rw same (relaxed d (rw same at at)))
          ]
          | inr r ↦ inr r
        ];
      }

  -- an edge that improves its end is taken, and the edges from there wait
  pub improved : (At' : Vertex → ℕ → Type 0) (Starts' : Vertex → Start → Type 0) (d : ℕ) → Improves e d At At' Starts Starts' → ((f : Edge) → Waits' f → is_edge f)
      → ((f : Edge) (j : ℕ) → is_seen f → f.from ≡ e.to → At' f.from j → IsOwed At' Starts' Waits' f j) → IsGrowing is_edge is_seen root At' Starts' Waits'
  improved At' Starts' d i waiting further =
      let further_path : (path : List Edge) → IsPath is_edge root path e.from → IsPath is_edge root (path ++ e ∷ []) e.to =
      λ path leads. IsPath-push is_edge path root e leads is in
      record {
        one = λ v a b p q. elim (same_or_other v e.to) [
          | inl same ↦ i.end_only a (rw same at p) ∙ sym (i.end_only b (rw same at q))
          | inr other ↦ g.one v a b (i.at_out v a other p) (i.at_out v b other q)
        ];
        root_at = elim (same_or_other root e.to) [
          | inl same ↦
              let at : At e.to 0 = rw same at g.root_at in
              let zero' : d + e.cost ≡ 0 = (let le = i.farther 0 at in omega arith) in
              rw same (rw zero' at i.end)
          | inr other ↦ i.at_in root 0 other g.root_at
        ];
        root_start = elim (same_or_other root e.to) [
          | inl same ↦
              let at : At e.to 0 = rw same at g.root_at in
              let zero' : 0 ≡ d + e.cost = (let le = i.farther 0 at in omega arith) in
              let has : Starts e.to Here = rw same at g.root_start in
              rw same (i.kept Here (rw zero' at at) has)
          | inr other ↦ i.starts_in root Here other g.root_start
        ];
        path_of = λ v j at. elim (same_or_other v e.to) [
          | inl same ↦
              let p = g.path_of e.from d i.from in
              let far : j ≡ d + e.cost = i.end_only j (rw same at at) in
              (p.0 ++ e ∷ [], rw same (further_path p.0 p.1), (let c = path_cost-push p.0 e in let a = p.2 in omega arith))
          | inr other ↦ g.path_of v j (i.at_out v j other at)
        ];
        path_with = λ v x has. elim (same_or_other v e.to) [
          | inl same ↦ elim (i.only x (rw same at has)) [
            | inl old ↦
                let p = g.path_with e.to x old.1 in
                let cost : path_cost p.0 ≡ d + e.cost = g.one e.to _ _ p.2 old.0 in
                (p.0, rw same p.1, rw (same, cost) i.end, p.3)
            | inr new ↦
                let p = g.path_with e.from new.0 new.1 in
                let near : path_cost p.0 ≡ d = g.one e.from _ d p.2 i.from in
                let cost : path_cost (p.0 ++ e ∷ []) ≡ d + e.cost = (let c = path_cost-push p.0 e in omega arith) in
                (p.0 ++ e ∷ [], rw same (further_path p.0 p.1), rw (same, cost) i.end, start_from-push Here p.0 e ∙ ap (λ y. extend y e.to e.link_data) p.3 ∙ sym new.2)
          ]
          | inr other ↦
              let p = g.path_with v x (i.starts_out v x other has) in
              (p.0, p.1, i.at_in v _ other p.2, p.3)
        ];
        within = g.within;
        waiting = waiting;
        owed = λ f j is_f at. elim (same_or_other f.from e.to) [
          | inl here ↦ further f j is_f here at
          | inr other ↦
              let at_f : At f.from j = i.at_out f.from j other at in
              elim (g.owed f j is_f at_f) [
                | inl w ↦ elim (keeps f w) [
                  | inl stays ↦ inl stays
                  | inr same ↦
                      let from : At e.from j = rw same at at_f in
                      let j_is : j ≡ d = g.one e.from j d from i.from in
                      let away : e.from ≢ e.to = rw same at other in
                      let level : IsRelaxed At' Starts' e d = inr (i.end, λ x has. i.brought x (i.starts_out e.from x away has)) in
                      inr (rw (same, j_is) level)
                ]
                | inr r ↦ elim r [
                  | inl near ↦ elim (same_or_other f.to e.to) [
                    | inl same ↦
                        let le : d + e.cost ≤ near.0 = i.farther near.0 (rw same at near.2) in
                        inr (inl (d + e.cost, (let lt = near.1 in omega arith), rw same i.end))
                    | inr apart ↦ inr (inl (near.0, near.1, i.at_in f.to near.0 apart near.2))
                  ]
                  | inr level ↦ elim (same_or_other f.to e.to) [
                    | inl same ↦
                        let end : At e.to (j + f.cost) = rw same at level.0 in
                        elim (less_or_level (d + e.cost) (j + f.cost) (i.farther (j + f.cost) end)) [
                          | inl lt ↦ inr (inl (d + e.cost, lt, rw same i.end))
                          | inr cost ↦
                              let end' : At e.to (d + e.cost) = rw cost end in
                              inr (inr (
                                rw (same, ← cost) i.end,
                                λ x has.
                                    let old : Starts e.to (extend x f.to f.link_data) = subst (λ v. Starts v (extend x f.to f.link_data)) same (level.1 x (i.starts_out f.from x other has)) in
                                    subst (λ v. Starts' v (extend x f.to f.link_data)) (sym same) (i.kept _ end' old),
                              ))
                        ]
                    | inr apart ↦ inr (inr (i.at_in f.to _ apart level.0, λ x has. i.starts_in f.to _ apart (level.1 x (i.starts_out f.from x other has))))
                  ]
                ]
              ]
        ];
      }
