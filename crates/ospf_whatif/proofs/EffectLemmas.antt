-- What becomes of the routes of a table, route by route.
use Rattle.std.proofs.Common.{◌≡◌, ◌<◌, ◌≤◌, ◌⊎◌, ◌∙◌, ◌+◌, ◌++◌, ℕ, zero, suc, List, [], ◌∷◌, Option, None, Some, length, get_or, take, refl, sym, ap, subst, inl, inr, arith}
use Rattle.std.specs.List.{AllPairs, Contains}
use Rattle.std.specs.List.Sorted.{IsNonDecreasing}
use Rattle.std.proofs.lemmas.List.{get_or_default, get_or-take, length-take-le}
use Rattle.std.proofs.lemmas.List.Elements.{All-contains, Contains-append_left, Contains-get_or, Contains-push, Contains-push_cases}
use Rattle.std.proofs.lemmas.List.Kept.{AllPairs-cons}
use Rattle.std.proofs.lemmas.List.Quantifiers.{all_pairs_push}
use Rattle.ospf_base.specs.declared.ids.RouterId.{RouterId}
use Rattle.ospf_base.specs.declared.prefix.Prefix.{Prefix}
use Rattle.ospf_base.specs.Prefixes.{IsPrefixBefore}
use Rattle.ospf_graph.specs.declared.route.Route.{Route}
use Rattle.ospf_graph.specs.Advertisements.{Advertisement}
use Rattle.ospf_graph.specs.Routes.{IsRoute, IsRouteBefore, IsTable, Way}
use Rattle.ospf_graph.proofs.ListLemmas.{member_cases, member_head, member_later, more_members}
use Rattle.ospf_graph.proofs.TableLemmas.{head_before, pairs_tail, same_route}
use Rattle.ospf_spf.specs.Changes.{Reaches}
use Rattle.ospf_spf.proofs.PrefixOrder.{prefixes_told}
use Rattle.ospf_spf.proofs.SameRoute.{route_same}
use Rattle.ospf_whatif.specs.Effect.{IsEffectIn, IsLoss, IsRouteChangeBefore}
use Rattle.ospf_whatif.specs.Failure.{without_all}
use Rattle.ospf_whatif.specs.Outage.{AddsLoss, AreChangesTo, IsLostAs, IsLossBy, StaysOr}
use Rattle.ospf_whatif.specs.declared.effect.Loss.{Loss}
use Rattle.ospf_whatif.specs.declared.effect.Loss.TheVariants.{Cut, Dearer, Gone, Moved}
use Rattle.ospf_whatif.specs.declared.effect.RouteChange.{RouteChange}
use Rattle.ospf_whatif.specs.declared.failure.AreaFailure.{AreaFailure}
use Rattle.ospf_whatif.proofs.LessLemmas.{all_bring_nothing_nearer, all_make_no_way}

-- ---- places

-- a table has one route to a prefix
pub one_place : (routes : List Route) → AllPairs IsRouteBefore routes → (i k : ℕ) (d : Route) → i < length routes → k < length routes
    → (get_or routes i d).prefix ≡ (get_or routes k d).prefix → i ≡ k
one_place routes order i k d lt lt' same = by (three i k)
  where
    three : (a b : ℕ) → (a < b) ⊎ ((a ≡ b) ⊎ (b < a))
    three a b = grind arith

    by : (i < k) ⊎ ((i ≡ k) ⊎ (k < i)) → i ≡ k
    by (inl less) = absurd (prefixes_told.irrefl (get_or routes k d).prefix (subst (λ (p : Prefix). IsPrefixBefore p (get_or routes k d).prefix) same (order i k d less lt')))
    by (inr (inl is)) = is
    by (inr (inr more)) = absurd (prefixes_told.irrefl (get_or routes k d).prefix (subst (λ (p : Prefix). IsPrefixBefore (get_or routes k d).prefix p) same (order k i d more lt)))

-- a number is among these, or not
pub number_or_not : (ks : List ℕ) (k : ℕ) → Contains ks k ⊎ (Contains ks k → ⊥)
number_or_not [] k = inr (λ m. let low = m.1 in omega arith)
number_or_not (j ∷ ks) k = elim (same_or j k) [
  | inl same ↦ inl (subst (λ (x : ℕ). Contains (j ∷ ks) x) same (member_head j ks))
  | inr other ↦ elim (number_or_not ks k) [
    | inl later ↦ inl (member_later j ks k later)
    | inr none ↦ inr (λ m. elim (member_cases j ks k m) [ inl same ↦ other same | inr later ↦ none later ])
  ]
]
  where
    same_or : (a b : ℕ) → (a ≡ b) ⊎ (a ≡ b → ⊥)
    same_or a b = grind arith

-- of numbers in order an earlier one is no more
pub before_place : (ks : List ℕ) (i k : ℕ) → IsNonDecreasing ks → i < length ks → Contains (take i ks) k → k ≤ get_or ks i 0
before_place ks i k order lt m =
    let short : length (take i ks) ≡ i = length-take-le i ks (omega (arith, lt)) in
    let at : get_or ks m.0 k ≡ k = sym (get_or-take i ks m.0 k (let low = m.1 in omega (arith, low, short))) ∙ m.2 in
    let less : m.0 ≤ i = (let low = m.1 in omega (arith, low, short)) in
    let same : get_or ks m.0 0 ≡ get_or ks m.0 k = get_or_default ks m.0 0 k (omega (arith, lt, less)) in
    let most = order m.0 i 0 less lt in
    omega (arith, most, same, at)

-- ---- one route

-- a route that comes in the place of another one after a failure
pub loss_here : (fs : List AreaFailure) (A : List Advertisement) (root : RouterId) (before after : Route) → IsRoute A root before → IsRoute (without_all fs A) root after
    → before.prefix ≡ after.prefix → (o : Option Loss) → IsLossBy before after o → StaysOr (without_all fs A) root before o
loss_here fs A root before after was is same None by = subst (IsRoute (without_all fs A) root) (sym by) is
loss_here fs A root before after was is same (Some loss) by = elim by.1 [
  | inl dear ↦ subst (λ (l : Loss). IsLostAs (without_all fs A) root before l) (sym dear.1) (is, sym same, dear.0)
  | inr moved ↦
      let low = all_bring_nothing_nearer fs A root before after was is same in
      let high = moved.0 in
      let cost : before.cost ≡ after.cost = omega arith in
      subst (λ (l : Loss). IsLostAs (without_all fs A) root before l) (sym moved.1) (is, sym same, sym cost, (λ hops. by.0 (route_same before after same cost (sym hops))))
]

module _ (B : List Advertisement) (root : RouterId) where
  -- the route stays, or something becomes of it
  abbrev IsSeen : Route → Type 0
  IsSeen r = IsRoute B root r ⊎ ((loss : Loss) × IsLostAs B root r loss)

  -- what stays is not lost
  not_both : (r : Route) (loss : Loss) → IsRoute B root r → IsLostAs B root r loss → ⊥
  not_both r Gone stays b = b.0 stays.way
  not_both r Cut stays b = b.0 stays.way
  not_both r (Dearer new) stays b =
      let same : new ≡ r = same_route B root new r b.0 stays b.1 in
      let less : r.cost < r.cost = subst (λ (x : Route). r.cost < x.cost) same b.2 in
      omega arith
  not_both r (Moved new) stays b = b.3 (ap (λ (x : Route). x.hops) (same_route B root new r b.0 stays b.1))

  -- ---- the table that is left

  record IsLeftOf (routes after : List Route) : Type 0 where
    order : AllPairs IsRouteBefore after
    sound : (x : Route) → Contains after x → IsRoute B root x × Reaches routes x.prefix
    whole : (r : Route) → Contains routes r → Way B root r.prefix → Reaches after r.prefix

  module _ (r : Route) (rs rest : List Route) (order : AllPairs IsRouteBefore (r ∷ rs)) (left : IsLeftOf rs rest) where
    later : (p : Prefix) → Reaches rs p → Reaches (r ∷ rs) p
    later p h = (h.0, member_later r rs h.0 h.1, h.2)

    with_it : (x : Route) → IsRoute B root x → x.prefix ≡ r.prefix → IsLeftOf (r ∷ rs) (x ∷ rest)
    with_it x is same = record {
      order = AllPairs-cons IsRouteBefore x rest
          (λ k d lt.
          let y = get_or rest k d in
          let s = (left.sound y (Contains-get_or rest k d lt)).1 in
          subst (λ (p : Prefix). IsPrefixBefore p y.prefix) (sym same) (subst (λ (p : Prefix). IsPrefixBefore r.prefix p) s.2 (head_before IsRouteBefore r rs order s.0 s.1)))
          left.order;
      sound = λ y m. elim (member_cases x rest y m) [
        | inl here ↦ (subst (IsRoute B root) here is, (r, member_head r rs, sym same ∙ ap (λ (z : Route). z.prefix) here))
        | inr in_rest ↦ (let s = left.sound y in_rest in (s.0, later y.prefix s.1))
      ];
      whole = λ s m way. elim (member_cases r rs s m) [
        | inl here ↦ (x, member_head x rest, same ∙ ap (λ (z : Route). z.prefix) here)
        | inr in_rs ↦ (let h = left.whole s in_rs way in (h.0, member_later x rest h.0 h.1, h.2))
      ];
    }

    without_it : (Way B root r.prefix → ⊥) → IsLeftOf (r ∷ rs) rest
    without_it none = record {
      order = left.order;
      sound = λ y m. let s = left.sound y m in (s.0, later y.prefix s.1);
      whole = λ s m way. elim (member_cases r rs s m) [
        | inl here ↦ absurd (none (subst (λ (z : Route). Way B root z.prefix) (sym here) way))
        | inr in_rs ↦ left.whole s in_rs way
      ];
    }

    next : IsSeen r → (after : List Route) × IsLeftOf (r ∷ rs) after
    next (inl stays) = (r ∷ rest, with_it r stays refl)
    next (inr (Gone, b)) = (rest, without_it b.0)
    next (inr (Cut, b)) = (rest, without_it b.0)
    next (inr (Dearer new, b)) = (new ∷ rest, with_it new b.0 b.1)
    next (inr (Moved new, b)) = (new ∷ rest, with_it new b.0 b.1)

  table_left : (routes : List Route) → AllPairs IsRouteBefore routes → ((r : Route) → Contains routes r → IsSeen r) → (after : List Route) × IsLeftOf routes after
  table_left [] order seen = ([], record { order = order; sound = λ x m. absurd (let low = m.1 in omega arith); whole = λ r m. absurd (let low = m.1 in omega arith) })
  table_left (r ∷ rs) order seen =
      let rest = table_left rs (pairs_tail IsRouteBefore r rs order) (λ s m. seen s (member_later r rs s m)) in
      next r rs rest.0 order rest.1 (seen r (member_head r rs))

  -- ---- one change more

  module _ (routes : List Route) (order : AllPairs IsRouteBefore routes) (places : List ℕ) (i at next : ℕ) (lt : i < length places) (is : at ≡ get_or places i at)
      (within : at < length routes) (changes : List RouteChange) (are : AreChangesTo B root routes (take i places) next changes) where
    seen_at : (k : ℕ) → Contains (take (i + 1) places) k → Contains (take i places) k ⊎ (k ≡ at)
    seen_at k m = elim ((more_members places i at lt k).0 m) [ inl earlier ↦ inl earlier | inr here ↦ inr (sym here ∙ sym is) ]

    -- a place that was seen
    pub changes_skip : Contains (take i places) at → AreChangesTo B root routes (take (i + 1) places) next changes
    changes_skip before = record {
      in_order = are.in_order;
      from = are.from;
      seen = λ k r m here. elim (seen_at k m) [ inl earlier ↦ are.seen k r earlier here | inr same ↦ are.seen k r (subst (λ (j : ℕ). Contains (take i places) j) (sym same) before) here ];
    }

    module _ (low : next ≤ at) (route : Route) (route_is : route ≡ get_or routes at route) (new : List RouteChange) (adds : AddsLoss B root route changes new) where
      further : (k : ℕ) → k < next → k < at + 1
      further k less = omega (arith, low, less)

      -- the one at the place
      alike : (k : ℕ) (r : Route) → k ≡ at → r ≡ get_or routes k r → r ≡ route
      alike k r same here =
          let one : get_or routes at r ≡ get_or routes at route = get_or_any routes at r route within in
          here ∙ ap (λ (j : ℕ). get_or routes j r) same ∙ one ∙ sym route_is
        where
          get_or_any : (xs : List Route) (n : ℕ) (d e : Route) → n < length xs → get_or xs n d ≡ get_or xs n e
          get_or_any [] n d e less = absurd (omega arith)
          get_or_any (x ∷ xs) zero d e less = refl
          get_or_any (x ∷ xs) (suc n) d e less = get_or_any xs n d e (omega arith)

      pub changes_next : AreChangesTo B root routes (take (i + 1) places) (at + 1) new
      changes_next = elim adds [
        | inl stays ↦ subst (AreChangesTo B root routes (take (i + 1) places) (at + 1)) (sym stays.1) (record {
          in_order = are.in_order;
          from = λ c m. let h = are.from c m in (h.0, further h.0 h.1, h.2, h.3, h.4);
          seen = λ k r m here. elim (seen_at k m) [
            | inl earlier ↦ (let h = are.seen k r earlier here in (further k h.0, h.1))
            | inr same ↦ (omega (arith, same), inl (subst (IsRoute B root) (sym (alike k r same here)) stays.0))
          ];
        })
        | inr lost ↦
            (let one : RouteChange = record { before = route; loss = lost.0 } in
            subst (AreChangesTo B root routes (take (i + 1) places) (at + 1)) (sym lost.2) (record {
              in_order = all_pairs_push IsRouteChangeBefore changes one are.in_order
                  (λ k d less.
                  let c = get_or changes k d in
                  let h = are.from c (Contains-get_or changes k d less) in
                  subst (λ (x : Route). IsRouteBefore x route) (sym h.3)
                  (subst (λ (x : Route). IsRouteBefore (get_or routes h.0 c.before) x) (alike at (get_or routes at c.before) refl (own c.before))
                  (order h.0 at c.before (let l = h.1 in omega arith) within)));
              from = λ c m. elim (Contains-push_cases changes one c m) [
                | inl old ↦ (let h = are.from c old in (h.0, further h.0 h.1, h.2, h.3, h.4))
                | inr here ↦ subst (λ (x : RouteChange). (k : ℕ) × (k < at + 1) × (k < length routes) × (x.before ≡ get_or routes k x.before) × IsLostAs B root x.before x.loss) here
                    (at, omega arith, within, route_is, lost.1)
              ];
              seen = λ k r m here. elim (seen_at k m) [
                | inl earlier ↦ (let h = are.seen k r earlier here in (
                  further k h.0,
                  elim h.1 [
                    | inl stays ↦ inl stays
                    | inr old ↦ inr (old.0, Contains-append_left changes (one ∷ []) _ old.1)
                  ],
                ))
                | inr same ↦ (omega (arith, same), inr (lost.0, subst (λ (x : Route). Contains (changes ++ one ∷ []) (record { before = x; loss = lost.0 })) (sym (alike k r same here)) (Contains-push changes one)))
              ];
            }))
      ]
        where
          own : (d : Route) → get_or routes at d ≡ get_or routes at (get_or routes at d)
          own d = own_in routes at d within
            where
              own_in : (xs : List Route) (n : ℕ) (d : Route) → n < length xs → get_or xs n d ≡ get_or xs n (get_or xs n d)
              own_in [] n d less = absurd (omega arith)
              own_in (x ∷ xs) zero d less = refl
              own_in (x ∷ xs) (suc n) d less = own_in xs n d (omega arith)

-- with more routes to come
pub changes_up : (B : List Advertisement) (root : RouterId) (routes : List Route) (places : List ℕ) (n m : ℕ) (changes : List RouteChange) → n ≤ m
    → AreChangesTo B root routes places n changes → AreChangesTo B root routes places m changes
changes_up B root routes places n m changes more are = record {
  in_order = are.in_order;
  from = λ c h. let f = are.from c h in (f.0, (let low = f.1 in omega (arith, low, more)), f.2, f.3, f.4);
  seen = λ k r h here. let f = are.seen k r h here in ((let low = f.0 in omega (arith, low, more)), f.1);
}

-- ---- all of them

module _ (fs : List AreaFailure) (A : List Advertisement) (root : RouterId) (routes : List Route) (was : IsTable A root routes) (places : List ℕ) (changes : List RouteChange)
    (are : AreChangesTo (without_all fs A) root routes places (length routes) changes)
    (rest : (k : ℕ) (r : Route) → k < length routes → r ≡ get_or routes k r → (Contains places k → ⊥) → IsRoute A root r → IsRoute (without_all fs A) root r) where
  abbrev left : List Advertisement
  left = without_all fs A

  -- each route stays or is among the changes
  each : (r : Route) → Contains routes r → IsRoute left root r ⊎ ((loss : Loss) × Contains changes (record { before = r; loss = loss }))
  each r m = elim (number_or_not places m.0) [
    | inl there ↦ (are.seen m.0 r there (sym m.2)).1
    | inr not ↦ inl (rest m.0 r m.1 (sym m.2) not (All-contains (IsRoute A root) routes r was.sound m))
  ]

  each_seen : (r : Route) → Contains routes r → IsSeen left root r
  each_seen r m = elim (each r m) [ inl stays ↦ inl stays | inr lost ↦ inr (lost.0, (are.from (record { before = r; loss = lost.0 }) lost.1).4) ]

  made : (after : List Route) × IsLeftOf left root routes after
  made = table_left left root routes was.in_order each_seen

  abbrev after : List Route
  after = made.0

  in_after : (x : Route) → IsRoute left root x → Contains after x
  in_after x is =
      let had = was.complete x.prefix (all_make_no_way fs A root x.prefix is.way) in
      let h = made.1.whole had.0 had.1 (subst (λ (p : Prefix). Way left root p) (sym had.2) is.way) in
      subst (λ (y : Route). Contains after y) (same_route left root h.0 x (made.1.sound h.0 h.1).0 is (h.2 ∙ had.2)) h.1

  no_reach : (p : Prefix) → (Way left root p → ⊥) → Reaches after p → ⊥
  no_reach p none h = none (subst (λ (q : Prefix). Way left root q) h.2 (made.1.sound h.0 h.1).0.way)

  loss_in : (r : Route) (loss : Loss) → IsLostAs left root r loss → IsLoss left after r loss
  loss_in r Gone b = (no_reach r.prefix b.0, b.1)
  loss_in r Cut b = (no_reach r.prefix b.0, b.1)
  loss_in r (Dearer new) b = (in_after new b.0, b.1, b.2)
  loss_in r (Moved new) b = (in_after new b.0, b.1, b.2, b.3)

  left_table : IsTable left root after
  left_table = record {
    in_order = made.1.order;
    complete = λ p way.
        let had = was.complete p (all_make_no_way fs A root p way) in
        let h = made.1.whole had.0 had.1 (subst (λ (q : Prefix). Way left root q) (sym had.2) way) in
        (h.0, h.1, h.2 ∙ had.2);
    sound = λ k d lt. (made.1.sound (get_or after k d) (Contains-get_or after k d lt)).0;
  }

  pub effect_made : IsEffectIn left root routes changes
  effect_made = record {
    after = after;
    is_after = left_table;
    in_order = are.in_order;
    listed = λ r. (
      (λ h.
          let from = are.from (record { before = r; loss = h.0 }) h.1 in
          ((from.0, from.2, sym from.3), (λ stays. not_both left root r h.0 (made.1.sound r stays).0 from.4))),
      (λ h. elim (each r h.0) [ inl stays ↦ absurd (h.1 (in_after r stays)) | inr lost ↦ lost ]),
    );
    losses = λ k d lt. let c = get_or changes k d in loss_in c.before c.loss (are.from c (Contains-get_or changes k d lt)).4;
  }
