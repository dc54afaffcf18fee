-- The reaches of one prefix, in a list that is in the order of prefixes.
use Rattle.std.proofs.Common.{◌≡◌, ◌+◌, ◌-◌, ◌<◌, ◌≤◌, ◌⊎◌, ◌↔◌, ℕ, List, [], ◌∷◌, ◌++◌, length, take, drop, get_or, refl, sym, ◌∙◌, ap, subst, inl, inr, arith}
use Rattle.std.specs.List.{All, AllPairs, Contains}
use Rattle.std.proofs.lemmas.List.{get_or_default}
use Rattle.std.proofs.lemmas.List.Elements.{All-push, Contains-push, Contains-push_cases, Contains-append_left, Contains-get_or}
use Rattle.std.proofs.lemmas.List.Quantifiers.{all_pairs_push}
use Rattle.ospf_base.specs.Prefixes.{IsPrefixBefore}
use Rattle.ospf_base.proofs.PrefixLaws.{prefix_same}
use Rattle.ospf_base.specs.declared.prefix.Prefix.{Prefix}
use Rattle.ospf_graph.proofs.Runs.{less_or_more, part_members}
use Rattle.ospf_graph.specs.declared.graph.Vertex.{Vertex}
use Rattle.ospf_graph.specs.declared.paths.VertexStart.{VertexStart}
use Rattle.ospf_graph.specs.declared.route.Route.{Route}
use Rattle.ospf_spf.proofs.HopLemmas.{adds_same}
use Rattle.ospf_spf.specs.Reach.{AreReachesInOrder, HasHopOf, IsChosenEnd, IsGroup, IsRouteOf, prefix_code}
use Rattle.ospf_spf.specs.declared.routes.Reach.{Reach}

pub code_same : (p q : Prefix) → prefix_code p ≡ prefix_code q → p ≡ q
code_same p q h =
    let a = p.short in
    let b = q.short in
    prefix_same p q (omega arith) (omega arith)

pub code_before : (p q : Prefix) → prefix_code p < prefix_code q → IsPrefixBefore p q
code_before p q h =
    let a = p.short in
    let b = q.short in
    grind arith

-- reaches of a prefix are all in a part
abbrev IsPartOf : List Reach → Prefix → List Reach → Type 0
IsPartOf reaches p some = (r : Reach) → r.prefix ≡ p → Contains reaches r ↔ Contains some r

-- what is a route by them is one by all
route_of_part : (reaches some : List Reach) (starts : List VertexStart) (route : Route) → IsPartOf reaches route.prefix some → IsRouteOf some starts route
    → IsRouteOf reaches starts route
route_of_part reaches some starts route part is =
    let chosen : (end : Reach) → end.prefix ≡ route.prefix → IsChosenEnd reaches end ↔ IsChosenEnd some end =
    λ end same. (
      λ m other h e. m other ((part other (e.1 ∙ same)).1 h) e,
      λ m other h e. m other ((part other (e.1 ∙ same)).0 h) e,
    ) in
    record {
      cost = record {
        end = is.cost.end;
        attained = (part _ refl).1 is.cost.attained;
        least = λ v k h. is.cost.least v k ((part _ refl).0 h);
      };
      hops = adds_same (HasHopOf some starts route.prefix route.cost) (HasHopOf reaches starts route.prefix route.cost) [] route.hops is.hops
          (λ h. (
            λ m. (m.0, (part m.0 m.2).1 m.1, m.2, m.3, (chosen m.0 m.2).1 m.4, m.5),
            λ m. (m.0, (part m.0 m.2).0 m.1, m.2, m.3, (chosen m.0 m.2).0 m.4, m.5),
          ));
    }

module _ (reaches : List Reach) (order : AreReachesInOrder reaches) (i : ℕ) (lt : i < length reaches)
    (first : (d : Reach) → 0 < i → (get_or reaches (i - 1) d).prefix ≡ (get_or reaches i d).prefix → ⊥) where
  -- what stands before the first of a prefix is before it
  before_first : (k : ℕ) (d : Reach) → k < i → prefix_code (get_or reaches k d).prefix < prefix_code (get_or reaches i d).prefix
  before_first k d low =
      let a : prefix_code (get_or reaches k d).prefix ≤ prefix_code (get_or reaches (i - 1) d).prefix = order k (i - 1) d (omega arith) (omega arith) in
      let b : prefix_code (get_or reaches (i - 1) d).prefix ≤ prefix_code (get_or reaches i d).prefix = order (i - 1) i d (omega arith) lt in
      elim (less_or_more (prefix_code (get_or reaches (i - 1) d).prefix) (prefix_code (get_or reaches i d).prefix)) [
        | inl less ↦ omega arith
        | inr le ↦ absurd (first d (omega arith) (code_same _ _ (omega arith)))
      ]

  module _ (end : ℕ) (group : IsGroup reaches i end) where
    group_members : (r : Reach) → Contains (take (end - i) (drop i reaches)) r ↔ ((k : ℕ) × (i ≤ k) × (k < end) × (get_or reaches k r ≡ r))
    group_members r = part_members reaches i end (let m = group.more in omega arith) group.within r

    pub group_first : (d : Reach) → (r : Reach) × Contains (take (end - i) (drop i reaches)) r × (r.prefix ≡ (get_or reaches i d).prefix)
    group_first d =
        let r = get_or reaches i d in
        (r, (group_members r).1 (i, omega arith, group.more, get_or_default reaches i r d lt), refl)

    is_part : (d : Reach) → IsPartOf reaches (get_or reaches i d).prefix (take (end - i) (drop i reaches))
    is_part d r same =
        let here : (get_or reaches i r).prefix ≡ (get_or reaches i d).prefix = ap (λ x. x.prefix) (get_or_default reaches i r d lt) in (
          λ m.
              let at : prefix_code (get_or reaches m.0 r).prefix ≡ prefix_code (get_or reaches i r).prefix = ap (λ x. prefix_code x.prefix) m.2 ∙ ap prefix_code (same ∙ sym here) in
              let low : i ≤ m.0 = elim (less_or_more m.0 i) [ inl less ↦ absurd (let b = before_first m.0 r less in omega arith) | inr le ↦ le ] in
              let high : m.0 < end = elim (less_or_more m.0 end) [
                | inl less ↦ less
                | inr le ↦
                    let within = m.1 in
                    let more = group.more in
                    let end_lt : end < length reaches = omega arith in
                    let a : prefix_code (get_or reaches end r).prefix ≤ prefix_code (get_or reaches m.0 r).prefix = order end m.0 r le within in
                    let b : prefix_code (get_or reaches i r).prefix ≤ prefix_code (get_or reaches end r).prefix = order i end r (omega arith) end_lt in
                    absurd (group.other r end_lt (code_same _ _ (omega arith)))
              ] in
              (group_members r).1 (m.0, low, high, m.2),
          λ m. let p = (group_members r).0 m in (p.0, (let a = p.2 in let b = group.within in omega arith), p.3),
        )

    pub route_of_group : (d : Reach) (starts : List VertexStart) (route : Route) → route.prefix ≡ (get_or reaches i d).prefix
        → IsRouteOf (take (end - i) (drop i reaches)) starts route → IsRouteOf reaches starts route
    route_of_group d starts route same is =
        route_of_part reaches (take (end - i) (drop i reaches)) starts route (subst (λ p. IsPartOf reaches p (take (end - i) (drop i reaches))) (sym same) (is_part d)) is

-- the routes to the prefixes that stand before a place
pub record HasRoutes (reaches : List Reach) (starts : List VertexStart) (i : ℕ) (routes : List Route) : Type 0 where
  pub in_order : AllPairs (λ p q. IsPrefixBefore p.prefix q.prefix) routes
  pub from : (r : Route) → Contains routes r → (k : ℕ) × (k < i) × ((d : Reach) → (get_or reaches k d).prefix ≡ r.prefix)
  pub complete : (k : ℕ) (d : Reach) → k < i → (r : Route) × Contains routes r × (r.prefix ≡ (get_or reaches k d).prefix)
  pub sound : All (IsRouteOf reaches starts) routes

same_or_less : (k i : ℕ) → k < i + 1 → (k < i) ⊎ (k ≡ i)
same_or_less k i lt = grind arith

module _ (reaches : List Reach) (starts : List VertexStart) (i : ℕ) (lt : i < length reaches) (old : List Route) (h : HasRoutes reaches starts i old) where
  -- the reach at i is not the first of its prefix
  pub routes_kept : 0 < i → ((d : Reach) → (get_or reaches (i - 1) d).prefix ≡ (get_or reaches i d).prefix) → HasRoutes reaches starts (i + 1) old
  routes_kept some same =
      record {
        in_order = h.in_order;
        from = λ r m. let f = h.from r m in (f.0, (let a = f.1 in omega arith), f.2);
        complete = λ k d low. elim (same_or_less k i low) [
          | inl before ↦ h.complete k d before
          | inr here ↦ (let p = h.complete (i - 1) d (omega arith) in (p.0, p.1, p.2 ∙ same d ∙ ap (λ j. (get_or reaches j d).prefix) (sym here)))
        ];
        sound = h.sound;
      }

  -- it is
  pub routes_more : AreReachesInOrder reaches → ((d : Reach) → 0 < i → (get_or reaches (i - 1) d).prefix ≡ (get_or reaches i d).prefix → ⊥) → (route : Route)
      → ((d : Reach) → route.prefix ≡ (get_or reaches i d).prefix) → IsRouteOf reaches starts route → (new : List Route) → new ≡ old ++ route ∷ []
      → HasRoutes reaches starts (i + 1) new
  routes_more order first route same is new new_is =
      rw new_is (record {
        in_order = all_pairs_push (λ p q. IsPrefixBefore p.prefix q.prefix) old route h.in_order
            (λ k d within.
            let f = h.from (get_or old k d) (Contains-get_or old k d within) in
            let r : Reach = record { prefix = route.prefix; vertex = Vertex.Network 0; cost = 0 } in
            let low = before_first reaches order i lt first f.0 r f.1 in
            code_before (get_or old k d).prefix route.prefix (subst (λ p. prefix_code (get_or old k d).prefix < prefix_code p) (sym (same r)) (subst (λ p. prefix_code p < prefix_code (get_or reaches i r).prefix) (f.2 r) low)));
        from = λ r m. elim (Contains-push_cases old route r m) [
          | inl before ↦ (let f = h.from r before in (f.0, (let a = f.1 in omega arith), f.2))
          | inr here ↦ (i, omega arith, λ d. sym (same d) ∙ ap (λ x. x.prefix) here)
        ];
        complete = λ k d low. elim (same_or_less k i low) [
          | inl before ↦ (let p = h.complete k d before in (p.0, Contains-append_left old (route ∷ []) p.0 p.1, p.2))
          | inr here ↦ (route, Contains-push old route, same d ∙ ap (λ j. (get_or reaches j d).prefix) (sym here))
        ];
        sound = All-push (IsRouteOf reaches starts) old route h.sound is;
      })

pub routes_complete : (reaches : List Reach) (starts : List VertexStart) (n : ℕ) (routes : List Route) → length reaches ≤ n → HasRoutes reaches starts n routes
    → (r : Reach) → Contains reaches r → (route : Route) × Contains routes route × (route.prefix ≡ r.prefix)
routes_complete reaches starts n routes all h r m =
    let p = h.complete m.0 r (let low = m.1 in omega arith) in
    (p.0, p.1, p.2 ∙ ap (λ x. x.prefix) m.2)
