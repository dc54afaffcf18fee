-- Shortest paths from which edges go.
use Rattle.std.proofs.Common.{◌≡◌, ◌+◌, ◌⊎◌, ℕ, List, [], ◌∷◌, inl, inr, arith, zero-add}
use Rattle.ospf_graph.specs.declared.graph.Edge.{Edge}
use Rattle.ospf_graph.specs.declared.graph.Vertex.{Vertex}
use Rattle.ospf_graph.specs.declared.graph.Start.{Start}
use Rattle.ospf_graph.specs.declared.graph.Start.TheVariants.{Here}
use Rattle.ospf_graph.specs.Graph.{IsPath, path_cost}
use Rattle.ospf_spf.specs.IncrementalSpf.Growth.{IsGrowing}
use Rattle.ospf_spf.specs.IncrementalSpf.Shrinking.{IsClosed, Leaves}
use Rattle.ospf_graph.specs.Tree.{IsTree}
use Rattle.ospf_spf.proofs.IncrementalSpf.GrowthLemmas.{less_or_level}
use Rattle.ospf_graph.proofs.TreeLemmas.{at_end}

-- edges went: the least paths to a vertex that stays have edges that stay
module _ (was is_edge : Edge → Type 0) (root : Vertex) (At : Vertex → ℕ → Type 0) (Starts : Vertex → Start → Type 0) (t : IsTree was root At Starts)
    (Gone : Vertex → Type 0) (closed : IsClosed was is_edge root At Gone) where
  pub path_stays : (path : List Edge) (u v : Vertex) (d : ℕ) → IsPath was u path v → At u d → At v (d + path_cost path) → (Gone v → ⊥)
      → (Gone u → ⊥) × IsPath is_edge u path v
  path_stays [] u v d leads at end stays = (λ gone. stays (rw leads at gone), leads)
  path_stays (e ∷ rest) u v d leads at end stays =
      let from : At e.from d = rw leads.0 at in
      let near = t.relaxed e d leads.1 from in
      let far = at_end was root At Starts t rest e.to v near.0 leads.2 near.1 in
      let same : far.0 ≡ d + (e.cost + path_cost rest) = t.one v far.0 _ far.1 end in
      let tight : near.0 ≡ d + e.cost = (let a = near.2 in let b = far.2 in omega arith) in
      let to : At e.to (d + e.cost) = rw tight at near.1 in
      let sums : d + (e.cost + path_cost rest) ≡ d + e.cost + path_cost rest = omega arith in
      let more = path_stays rest e.to v (d + e.cost) leads.2 to (rw sums at end) stays in
      let here : Gone e.from → ⊥ = λ gone. more.0 (closed.spreads e d leads.1 from to gone) in
      let edge : is_edge e = elim (closed.went e d leads.1 from to) [ inl is ↦ is | inr gone ↦ absurd (more.0 gone) ] in
      (λ gone. here (rw (← leads.0) at gone), (leads.0, edge, more.1))

  -- what is left grows again from the edges that lead to what went
  pub left : (At' : Vertex → ℕ → Type 0) (Starts' : Vertex → Start → Type 0) (Waits : Edge → Type 0) → Leaves Gone At At' Starts Starts'
      → ((e : Edge) → is_edge e → was e) → ((v : Vertex) → Gone v ⊎ (Gone v → ⊥)) → ((e : Edge) → Waits e → is_edge e)
      → ((e : Edge) (d : ℕ) → is_edge e → At' e.from d → Gone e.to → Waits e) → IsGrowing is_edge is_edge root At' Starts' Waits
  left At' Starts' Waits l back tells waiting owes =
      record {
        one = λ v d k p q. t.one v d k (l.at_out v d p).1 (l.at_out v k q).1;
        root_at = l.at_in root 0 closed.stays t.root_at;
        root_start = l.starts_in root Here closed.stays t.root_start;
        path_of = λ v d at.
            let old = l.at_out v d at in
            let p = t.path_of v d old.1 in
            let end : At v (path_cost p.0) = rw (← p.2) at old.1 in
            (p.0, (path_stays p.0 root v 0 p.1 t.root_at (rw zero-add end) old.0).1, p.2);
        path_with = λ v x has.
            let old = l.starts_out v x has in
            let p = t.path_with v x old.1 in
            (p.0, (path_stays p.0 root v 0 p.1 t.root_at (rw zero-add p.2) old.0).1, l.at_in v _ old.0 p.2, p.3);
        within = λ e is. is;
        waiting = waiting;
        owed = λ e d is at. elim (tells e.to) [
          | inl gone ↦ inl (owes e d is at gone)
          | inr stays ↦
              let from = (l.at_out e.from d at).1 in
              let r = t.relaxed e d (back e is) from in
              elim (less_or_level r.0 (d + e.cost) r.2) [
                | inl lt ↦ inr (inl (r.0, lt, l.at_in e.to r.0 stays r.1))
                | inr level ↦
                    let end : At e.to (d + e.cost) = rw level at r.1 in
                    inr (inr (l.at_in e.to _ stays end, λ x has. l.starts_in e.to _ stays (t.spread e d x (back e is) from end (l.starts_out e.from x has).1)))
              ]
        ];
      }
