-- The chosen network of a prefix at a cost.
use Rattle.std.proofs.Common.{◌≡◌, ◌+◌, ◌<◌, ◌≤◌, ◌⊎◌, ◌↔◌, ℕ, Option, Some, None, List, [], ◌∷◌, ◌++◌, length, take, get_or, refl, sym, ◌∙◌, ap, subst, inl, inr, arith, MatchOption}
use Rattle.std.specs.List.{Contains}
use Rattle.std.proofs.lemmas.List.{take_more}
use Rattle.std.proofs.lemmas.List.Elements.{Contains-append_left, Contains-push, Contains-push_cases}
use Rattle.ospf_base.specs.declared.ids.RouterId.{RouterId}
use Rattle.ospf_base.specs.declared.prefix.Prefix.{Prefix}
use Rattle.ospf_graph.specs.declared.graph.Vertex.{Vertex}
use Rattle.ospf_graph.specs.declared.graph.Vertex.TheVariants.{Router, Network}
use Rattle.ospf_spf.specs.Reach.{IsChosenEnd, IsLargerNetwork, IsLargestOf, IsRouterOr, network_reach}
use Rattle.ospf_spf.specs.declared.routes.Reach.{Reach}

same_network : (a b : Vertex) (m n : ℕ) → a ≡ Network m → b ≡ Network n → a ≡ b → m ≡ n
same_network a b m n e f g = let h : Network m ≡ Network n = sym e ∙ g ∙ f in cc

-- a list and one element more
module _ (xs : List Reach) (x : Reach) (prefix : Prefix) (cost : ℕ) where
  largest_kept : (largest : Option ℕ) → ((n : ℕ) → x ≡ network_reach prefix n cost → ⊥) → IsLargestOf xs prefix cost largest → IsLargestOf (xs ++ x ∷ []) prefix cost largest
  largest_kept None other h = λ n m. elim (Contains-push_cases xs x _ m) [ inl old ↦ h n old | inr here ↦ other n here ]
  largest_kept (Some id) other h =
      (Contains-append_left xs (x ∷ []) _ h.0, λ n m. elim (Contains-push_cases xs x _ m) [ inl old ↦ h.1 n old | inr here ↦ absurd (other n here) ])

  -- x is the network id, and no other is larger
  new_largest : (id : ℕ) → x ≡ network_reach prefix id cost → ((n : ℕ) → Contains xs (network_reach prefix n cost) → n ≤ id)
      → IsLargestOf (xs ++ x ∷ []) prefix cost (Some id)
  new_largest id is low = (
    subst (λ r. Contains (xs ++ x ∷ []) r) is (Contains-push xs x),
    λ n m. elim (Contains-push_cases xs x _ m) [
      | inl old ↦ low n old
      | inr here ↦ (let same : id ≡ n = same_network x.vertex x.vertex id n (ap (λ r. r.vertex) is) (ap (λ r. r.vertex) here) refl in omega arith)
    ],
  )

  largest_more : (largest : Option ℕ) (id new : ℕ) → x ≡ network_reach prefix id cost → IsLargestOf xs prefix cost largest
      → MatchOption largest (new ≡ id) (λ n. ((new ≡ n) × (id ≤ n)) ⊎ ((new ≡ id) × (n ≤ id))) → IsLargestOf (xs ++ x ∷ []) prefix cost (Some new)
  largest_more None id new is h chosen = rw chosen (new_largest id is (λ n m. absurd (h n m)))
  largest_more (Some n) id new is h (inl kept) =
      rw kept.0 (
        Contains-append_left xs (x ∷ []) _ h.0,
        λ k m. elim (Contains-push_cases xs x _ m) [
          | inl old ↦ h.1 k old
          | inr here ↦ (let same : id ≡ k = same_network x.vertex x.vertex id k (ap (λ r. r.vertex) is) (ap (λ r. r.vertex) here) refl in let le = kept.1 in omega arith)
        ],
      )
  largest_more (Some n) id new is h (inr larger) =
      rw larger.0 (new_largest id is (λ k m. let low = h.1 k m in let le = larger.1 in omega arith))

-- at an index of the loop
pub network_kept : (reaches : List Reach) (i : ℕ) (d : Reach) (prefix : Prefix) (cost : ℕ) (largest : Option ℕ) → i < length reaches
    → ((n : ℕ) → get_or reaches i d ≡ network_reach prefix n cost → ⊥) → IsLargestOf (take i reaches) prefix cost largest
    → IsLargestOf (take (i + 1) reaches) prefix cost largest
network_kept reaches i d prefix cost largest lt other h =
    subst (λ l. IsLargestOf l prefix cost largest) (sym (take_more reaches i d lt)) (largest_kept (take i reaches) (get_or reaches i d) prefix cost largest other h)

pub network_more : (reaches : List Reach) (i : ℕ) (d : Reach) (prefix : Prefix) (cost : ℕ) (largest : Option ℕ) (id new : ℕ) → i < length reaches
    → get_or reaches i d ≡ network_reach prefix id cost → IsLargestOf (take i reaches) prefix cost largest
    → MatchOption largest (new ≡ id) (λ n. ((new ≡ n) × (id ≤ n)) ⊎ ((new ≡ id) × (n ≤ id))) → IsLargestOf (take (i + 1) reaches) prefix cost (Some new)
network_more reaches i d prefix cost largest id new lt is h chosen =
    subst (λ l. IsLargestOf l prefix cost (Some new)) (sym (take_more reaches i d lt)) (largest_more (take i reaches) (get_or reaches i d) prefix cost largest id new is h chosen)

less_or_same : (a b : ℕ) → a ≤ b → (a < b) ⊎ (a ≡ b)
less_or_same a b le = grind arith

not_over_router : (v w : Vertex) (r : RouterId) → w ≡ Router r → IsLargerNetwork v w → ⊥
not_over_router (Network _) (Router _) r e h = h
not_over_router (Router _) (Router _) r e h = h
not_over_router (Network _) (Network _) r e h = cc
not_over_router (Router _) (Network _) r e h = h

-- what is larger than a network is one of larger number
larger_number : (v : Vertex) (n : ℕ) → IsLargerNetwork v (Network n) → (m : ℕ) × (v ≡ Network m) × (n < m)
larger_number (Network m) n h = (m, refl, h)
larger_number (Router _) n h = absurd h

-- exactly the routers and the chosen network are chosen ends
module _ (reaches : List Reach) (prefix : Prefix) (cost : ℕ) where
  abbrev reach_at : Vertex → Reach
  reach_at v = record { prefix = prefix; vertex = v; cost = cost }

  chosen_at : (v : Vertex) (network : Option ℕ) → IsLargestOf reaches prefix cost network → Contains reaches (reach_at v)
      → IsRouterOr network v ↔ IsChosenEnd reaches (reach_at v)
  chosen_at (Router r) network h m = (λ _ other _ excludes. not_over_router other.vertex (Router r) r refl excludes.0, λ _. tt)
  chosen_at (Network n) None h m = (λ no. absurd no, λ _. h n m)
  chosen_at (Network n) (Some id) h m = (
    λ same other there excludes.
        let large = larger_number other.vertex n excludes.0 in
        let is : other ≡ network_reach prefix large.0 cost = (λ i. record { prefix = excludes.1 i; vertex = large.1 i; cost = excludes.2 i }) in
        let low : large.0 ≤ id = h.1 large.0 (subst (λ r. Contains reaches r) is there) in
        let more = large.2 in
        omega arith,
    λ chosen.
        let low : n ≤ id = h.1 n m in
        let no : n < id → ⊥ = (λ less. chosen (network_reach prefix id cost) h.0 (less, refl, refl)) in
        elim (less_or_same n id low) [ inl less ↦ absurd (no less) | inr same ↦ same ],
  )

  pub chosen_is : (network : Option ℕ) → IsLargestOf reaches prefix cost network → (end : Reach) → Contains reaches end
      → ((end.prefix ≡ prefix) × (end.cost ≡ cost) × IsRouterOr network end.vertex) ↔ ((end.prefix ≡ prefix) × (end.cost ≡ cost) × IsChosenEnd reaches end)
  chosen_is network h end there = (
    λ c. let is = placed c.0 c.1 in (c.0, c.1, subst (λ r. IsChosenEnd reaches r) (sym is) ((chosen_at end.vertex network h (subst (λ r. Contains reaches r) is there)).0 c.2)),
    λ c. let is = placed c.0 c.1 in (c.0, c.1, (chosen_at end.vertex network h (subst (λ r. Contains reaches r) is there)).1 (subst (λ r. IsChosenEnd reaches r) is c.2)),
  )
    where
      placed : end.prefix ≡ prefix → end.cost ≡ cost → end ≡ reach_at end.vertex
      placed p k = λ i. record { prefix = p i; vertex = end.vertex; cost = k i }
