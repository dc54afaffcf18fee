-- The loops that collect reaches and prefixes.
use Rattle.std.proofs.Common.{◌≡◌, ◌+◌, ◌<◌, ◌↔◌, ℕ, List, [], ◌∷◌, ◌++◌, length, take, get_or, refl, sym, ◌∙◌, ap, inl, inr}
use Rattle.std.specs.List.{Contains}
use Rattle.std.proofs.lemmas.List.Elements.{Contains-append_left, Contains-push, Contains-push_cases}
use Rattle.ospf_graph.proofs.ListLemmas.{more_members}
use Rattle.ospf_graph.specs.Search.{AtIn}
use Rattle.ospf_graph.specs.declared.paths.Settled.{Settled}
use Rattle.ospf_spf.specs.Reach.{IsReachOf, reach_of}
use Rattle.ospf_graph.specs.declared.edges.end.End.{End}
use Rattle.ospf_spf.specs.declared.routes.Reach.{Reach}

module _ (ends : List End) (settled : List Settled) (i : ℕ) (d : End) (lt : i < length ends) (old : List Reach)
    (so_far : (r : Reach) → Contains old r ↔ IsReachOf (take i ends) settled r) where
  pub reach_kept : ((k : ℕ) → AtIn settled (get_or ends i d).vertex k → ⊥) → (r : Reach) → Contains old r ↔ IsReachOf (take (i + 1) ends) settled r
  reach_kept far r = (
    λ m. let h = (so_far r).0 m in (h.0, (more_members ends i d lt h.0).1 (inl h.1), h.2, h.3, h.4),
    λ m. elim ((more_members ends i d lt m.0).0 m.1) [
      | inl before ↦ (so_far r).1 (m.0, before, m.2, m.3, m.4)
      | inr here ↦ absurd (far m.2 (rw here m.3))
    ],
  )

  pub reach_more : ((j k : ℕ) → AtIn settled (get_or ends i d).vertex j → AtIn settled (get_or ends i d).vertex k → j ≡ k) → (k : ℕ) → AtIn settled (get_or ends i d).vertex k
      → (new : List Reach) → new ≡ old ++ reach_of (get_or ends i d) k ∷ [] → (r : Reach) → Contains new r ↔ IsReachOf (take (i + 1) ends) settled r
  reach_more one k at new is r =
      let e = get_or ends i d in
      rw is (
        λ m. elim (Contains-push_cases old (reach_of e k) r m) [
          | inl before ↦ (let h = (so_far r).0 before in (h.0, (more_members ends i d lt h.0).1 (inl h.1), h.2, h.3, h.4))
          | inr here ↦ (e, (more_members ends i d lt e).1 (inr refl), k, at, sym here)
        ],
        λ m. elim ((more_members ends i d lt m.0).0 m.1) [
          | inl before ↦ Contains-append_left old _ r ((so_far r).1 (m.0, before, m.2, m.3, m.4))
          | inr here ↦
              (let same : k ≡ m.2 = one k m.2 at (rw (← here) at m.3) in
              let made : reach_of e k ≡ r = ap (λ x. reach_of x k) here ∙ ap (λ j. reach_of m.0 j) same ∙ sym m.4 in
              rw made (Contains-push old r))
        ],
      )
