-- What interfaces cost, by the edges of an area.
use Rattle.std.proofs.Common.{◌≡◌, ◌∙◌, ◌+◌, ◌<◌, ◌≤◌, ◌↔◌, ◌⊎◌, ◌++◌, ℕ, Bool, true, false, List, [], ◌∷◌, All, length, take, get_or, ap, sym, refl, subst, inl, inr, arith, None, Some, Ordering, Less}
use Rattle.std.specs.Prelude.{Option, filter_map, nat_lt}
use Rattle.std.specs.Map.{keys_of}
use Rattle.std.specs.BTreeMap.{BTreeMap, IsOrdered, get}
use Rattle.std.specs.List.{AllByRecursion, AllPairs, Contains, cons_option}
use Rattle.std.specs.List.Sorted.{IsStrictlySortedBy}
use Rattle.std.proofs.lemmas.Bool.Decides.{Decides-ltb, eqb_tells}
use Rattle.std.proofs.lemmas.List.{take_more}
use Rattle.std.proofs.lemmas.List.Elements.{All-from_recursion, Contains-append_left, Contains-get_or, Contains-push, Contains-push_cases}
use Rattle.std.proofs.lemmas.List.Kept.{AllPairs-cons}
use Rattle.std.proofs.lemmas.Map.Views.{btree_map_get_iff}
use Rattle.ospf_graph.specs.EdgeLists.Costs.{lesser_of}
use Rattle.ospf_graph.specs.EdgeLists.Given.{IsEdgesOf}
use Rattle.ospf_graph.specs.Advertisements.{Advertisement}
use Rattle.ospf_graph.specs.Graph.{IsEdgeBetween}
use Rattle.ospf_graph.specs.declared.graph.Edge.{Edge}
use Rattle.ospf_graph.specs.declared.graph.Vertex.TheVariants.{Network, Router}
use Rattle.ospf_graph.proofs.ListLemmas.{member_cases, member_head, member_later}
use Rattle.ospf_graph.proofs.TableLemmas.{head_before, pairs_tail}
use Rattle.ospf_change.specs.Diff.Costs.{AddsCost, AreCostChanges, AreInterfaceCosts, IsCostChange, IsInterfaceBefore, IsInterfaceCost, IsLeastCostOf, change_in, change_to, edge_of, interface_cmp}
use Rattle.ospf_change.specs.contracts.diff.costs.InterfaceOrd.TheImpl.Laws.{total-law}
use Rattle.ospf_change.specs.declared.diff.costs.CostChange.{CostChange}
use Rattle.ospf_change.specs.declared.diff.costs.Interface.{Interface}
use Rattle.ospf_change.proofs.Diffs.InterfaceOrder.{before_by_cmp, interfaces_exact}

-- what each interface costs by these edges
abbrev pub AreCostsBy : List Edge → (Interface → Option ℕ) → Type 0
AreCostsBy edges cost_at =
    (i : Interface) → IsLeastCostOf (λ cost. Contains edges (edge_of i cost)) (cost_at i)

-- ---- one edge more

abbrev HasCost : List Edge → Interface → ℕ → Type 0
HasCost edges i cost = Contains edges (edge_of i cost)

less_or_more : (i j : ℕ) → (i < j) ⊎ (j ≤ i)
less_or_more i j = grind arith

not_true : (b : Bool) → (b ≡ true → ⊥) → b ≡ false
not_true true h = absurd (h refl)
not_true false h = refl

lt_tells : (a b : ℕ) → ((nat_lt a b ≡ true) × (a < b)) ⊎ ((nat_lt a b ≡ false) × (b ≤ a))
lt_tells a b = elim (less_or_more a b) [
  | inl less ↦ inl ((Decides-ltb a b).1 less, less)
  | inr le ↦ inr (not_true (nat_lt a b) (λ t. let less = (Decides-ltb a b).0 t in omega arith), le)
]

module _ (edges : List Edge) (edge : Edge) (j : Interface) where
  -- the edge is one of the interface
  of_it : edge ≡ edge_of j edge.cost → (old : Option ℕ) → IsLeastCostOf (HasCost edges j) old → IsLeastCostOf (HasCost (edges ++ edge ∷ []) j) (Some (lesser_of old edge.cost))
  of_it is None none = (
    subst (Contains (edges ++ edge ∷ [])) is (Contains-push edges edge),
    λ d c. elim (Contains-push_cases edges edge (edge_of j d) c) [
      | inl earlier ↦ absurd (none d earlier)
      | inr now ↦ (let cost : edge.cost ≡ d = ap (λ (e : Edge). e.cost) now in omega arith)
    ],
  )
  of_it is (Some b) least = elim (lt_tells b edge.cost) [
    | inl less ↦ rw less.0 (
      Contains-append_left edges (edge ∷ []) (edge_of j b) least.0,
      λ d c. elim (Contains-push_cases edges edge (edge_of j d) c) [
        | inl earlier ↦ least.1 d earlier
        | inr now ↦ (let cost : edge.cost ≡ d = ap (λ (e : Edge). e.cost) now in let low = less.1 in omega arith)
      ],
    )
    | inr le ↦ rw le.0 (
      subst (Contains (edges ++ edge ∷ [])) is (Contains-push edges edge),
      λ d c. elim (Contains-push_cases edges edge (edge_of j d) c) [
        | inl earlier ↦ (let low = least.1 d earlier in let high = le.1 in omega arith)
        | inr now ↦ (let cost : edge.cost ≡ d = ap (λ (e : Edge). e.cost) now in omega arith)
      ],
    )
  ]

  -- or of another
  of_other : (edge ≡ edge_of j edge.cost → ⊥) → (old : Option ℕ) → IsLeastCostOf (HasCost edges j) old → IsLeastCostOf (HasCost (edges ++ edge ∷ []) j) old
  of_other other None none = λ d c. elim (Contains-push_cases edges edge (edge_of j d) c) [
    | inl earlier ↦ none d earlier
    | inr now ↦ (let cost : edge.cost ≡ d = ap (λ (e : Edge). e.cost) now in other (now ∙ ap (edge_of j) (sym cost)))
  ]
  of_other other (Some b) least = (
    Contains-append_left edges (edge ∷ []) (edge_of j b) least.0,
    λ d c. elim (Contains-push_cases edges edge (edge_of j d) c) [
      | inl earlier ↦ least.1 d earlier
      | inr now ↦ (let cost : edge.cost ≡ d = ap (λ (e : Edge). e.cost) now in absurd (other (now ∙ ap (edge_of j) (sym cost))))
    ],
  )

  cost_more : (old new : Option ℕ) → ((edge ≡ edge_of j edge.cost) × (new ≡ Some (lesser_of old edge.cost))) ⊎ ((edge ≡ edge_of j edge.cost → ⊥) × (new ≡ old))
      → IsLeastCostOf (HasCost edges j) old → IsLeastCostOf (HasCost (edges ++ edge ∷ []) j) new
  cost_more old new (inl here) least = subst (IsLeastCostOf (HasCost (edges ++ edge ∷ []) j)) (sym here.1) (of_it here.0 old least)
  cost_more old new (inr other) least = subst (IsLeastCostOf (HasCost (edges ++ edge ∷ []) j)) (sym other.1) (of_other other.0 old least)

pub costs_more : (edges : List Edge) (i : ℕ) (edge : Edge) (old new : Interface → Option ℕ) → i < length edges → edge ≡ get_or edges i edge
    → AddsCost edge old new → AreCostsBy (take i edges) old → AreCostsBy (take (i + 1) edges) new
costs_more edges i edge old new lt is adds so_far =
    let taken : take (i + 1) edges ≡ take i edges ++ edge ∷ [] = take_more edges i edge lt ∙ ap (λ (e : Edge). take i edges ++ e ∷ []) (sym is) in
    subst (λ (l : List Edge). AreCostsBy l new) (sym taken) (λ j. cost_more (take i edges) edge j (old j) (new j) (adds j) (so_far j))

pub no_costs : (edges : List Edge) (cost_at : Interface → Option ℕ) → ((i : Interface) → cost_at i ≡ None) → AreCostsBy (take 0 edges) cost_at
no_costs edges cost_at none i =
    subst (IsLeastCostOf (HasCost (take 0 edges) i)) (sym (none i)) (λ n c. let low = c.1 in omega arith)

least_as : (P Q : ℕ → Type 0) (o : Option ℕ) → ((n : ℕ) → P n ↔ Q n) → IsLeastCostOf P o → IsLeastCostOf Q o
least_as P Q None same none = λ n q. none n ((same n).1 q)
least_as P Q (Some n) same least = ((same n).0 least.0, (λ m q. least.1 m ((same m).1 q)))

pub costs_are : (adverts : List Advertisement) (edges : List Edge) (cost_at : Interface → Option ℕ) → IsEdgesOf adverts edges → AreCostsBy edges cost_at
    → AreInterfaceCosts adverts cost_at
costs_are adverts edges cost_at all costs i =
    least_as (HasCost edges i) (λ cost. IsEdgeBetween adverts (Router i.router) i.to cost i.link_data) (cost_at i) (λ n. all (edge_of i n)) (costs i)

-- ---- what differs

-- an interface's cost, by what all cost
cost_of : (adverts : List Advertisement) (i : Interface) (n : ℕ) (o : Option ℕ) → IsLeastCostOf (λ cost. IsEdgeBetween adverts (Router i.router) i.to cost i.link_data) o
    → (o ≡ Some n) ↔ IsInterfaceCost adverts i n
cost_of adverts i n None none = ((λ e. cc), (λ is. absurd (none n is.edge)))
cost_of adverts i n (Some m) least = (
  (λ e. let same : m ≡ n = cc in subst (IsInterfaceCost adverts i) same (record { edge = least.0; least = least.1 })),
  (λ is. let same : m ≡ n = (let a = least.1 n is.edge in let b = is.least m least.0 in omega arith) in ap (λ (k : ℕ). Some k) same),
)

-- what a change says
change_is : (i : Interface) (before : ℕ) (o : Option ℕ) (c : CostChange) → change_to i before o ≡ Some c
    → (i ≡ c.interface) × (before ≡ c.before) × (o ≡ Some c.after) × (c.before ≡ c.after → ⊥)
change_is i before None c e = cc
change_is i before (Some after) c e = elim (eqb_tells before after) [
  | inl same ↦ (let no : None ≡ Some c = rw same.0 at e in cc)
  | inr other ↦
      let is : Some (record { interface = i; before = before; after = after }) ≡ Some c = rw other.0 at e in
      let one : record { interface = i; before = before; after = after } ≡ c = cc in (
        ap (λ (d : CostChange). d.interface) one,
        ap (λ (d : CostChange). d.before) one,
        ap (λ (d : CostChange). Some d.after) one,
        λ same. other.1 (ap (λ (d : CostChange). d.before) one ∙ same ∙ sym (ap (λ (d : CostChange). d.after) one)),
      )
]

change_made : (i : Interface) (before after : ℕ) (o : Option ℕ) → o ≡ Some after → (before ≡ after → ⊥)
    → change_to i before o ≡ Some (record { interface = i; before = before; after = after })
change_made i before after None is other = cc
change_made i before after (Some n) is other =
    let same : n ≡ after = cc in
    elim (eqb_tells before n) [
      | inl one ↦ absurd (other (one.1 ∙ same))
      | inr apart ↦ rw apart.0 (ap (λ (k : ℕ). Some (record { interface = i; before = before; after = k })) same)
    ]

-- ---- what a filter keeps

module _ {X Y : Type 0} (f : X → Option Y) where
  from_option : (o : Option Y) (ys : List Y) (y : Y) → Contains (cons_option o ys) y → (o ≡ Some y) ⊎ Contains ys y
  from_option None ys y c = inr c
  from_option (Some z) ys y c = elim (member_cases z ys y c) [ inl is ↦ inl (ap (λ (w : Y). Some w) is) | inr later ↦ inr later ]

  to_option : (o : Option Y) (ys : List Y) (y : Y) → (o ≡ Some y) ⊎ Contains ys y → Contains (cons_option o ys) y
  to_option None ys y (inl is) = cc
  to_option None ys y (inr c) = c
  to_option (Some z) ys y (inl is) = let same : z ≡ y = cc in subst (Contains (z ∷ ys)) same (member_head z ys)
  to_option (Some z) ys y (inr c) = member_later z ys y c

  kept_from : (xs : List X) (y : Y) → Contains (filter_map f xs) y → (x : X) × Contains xs x × (f x ≡ Some y)
  kept_from [] y c = absurd (let low = c.1 in omega arith)
  kept_from (x ∷ xs) y c = elim (from_option (f x) (filter_map f xs) y c) [
    | inl is ↦ (x, member_head x xs, is)
    | inr later ↦ (let r = kept_from xs y later in (r.0, member_later x xs r.0 r.1, r.2))
  ]

  kept_to : (xs : List X) (x : X) (y : Y) → Contains xs x → f x ≡ Some y → Contains (filter_map f xs) y
  kept_to [] x y c is = absurd (let low = c.1 in omega arith)
  kept_to (z ∷ xs) x y c is = elim (member_cases z xs x c) [
    | inl same ↦ to_option (f z) (filter_map f xs) y (inl (ap f same ∙ is))
    | inr later ↦ to_option (f z) (filter_map f xs) y (inr (kept_to xs x y later is))
  ]

  order_of_option : (R : Y → Y → Type 0) (o : Option Y) (ys : List Y) → ((y : Y) → o ≡ Some y → All (R y) ys) → AllPairs R ys → AllPairs R (cons_option o ys)
  order_of_option R None ys first order = order
  order_of_option R (Some y) ys first order = AllPairs-cons R y ys (first y refl) order

  -- those that are kept stand in the order of what they come from
  kept_order : (R : Y → Y → Type 0) (S : X → X → Type 0) → ((a b : X) (c d : Y) → f a ≡ Some c → f b ≡ Some d → S a b → R c d) → (xs : List X) → AllPairs S xs
      → AllPairs R (filter_map f xs)
  kept_order R S keeps [] order = λ i j d lt le. absurd (omega arith)
  kept_order R S keeps (x ∷ xs) order =
      order_of_option R (f x) (filter_map f xs)
      (λ y is. λ k d lt.
      let z = get_or (filter_map f xs) k d in
      let from = kept_from xs z (Contains-get_or (filter_map f xs) k d lt) in
      keeps x from.0 y z is from.2 (head_before S x xs order from.0 from.1))
      (kept_order R S keeps xs (pairs_tail S x xs order))

-- ---- all changes

abbrev Entry : Type 0
Entry = Interface × ℕ

abbrev IsEntryBefore : Entry → Entry → Type 0
IsEntryBefore a b = IsInterfaceBefore a.0 b.0

all_behind : (i : Interface) (es : List Entry) → AllByRecursion (λ q. interface_cmp i q ≡ Less) (keys_of es) → AllByRecursion (λ b. IsInterfaceBefore i b.0) es
all_behind i [] all = tt
all_behind i (e ∷ es) all = (before_by_cmp i e.0 all.0, all_behind i es all.1)

entries_rise : (es : List Entry) → IsStrictlySortedBy interface_cmp (keys_of es) → AllPairs IsEntryBefore es
unfolding IsStrictlySortedBy
entries_rise [] sorted = λ i j d lt le. absurd (omega arith)
entries_rise (e ∷ es) sorted =
    AllPairs-cons IsEntryBefore e es (All-from_recursion (λ (b : Entry). IsInterfaceBefore e.0 b.0) es (all_behind e.0 es sorted.0)) (entries_rise es sorted.1)

pub changes_are : (A B : List Advertisement) (old new : BTreeMap Interface ℕ) (found : List CostChange) → AreInterfaceCosts A (get interface_cmp old)
    → AreInterfaceCosts B (get interface_cmp new) → IsOrdered interface_cmp old → found ≡ filter_map (change_in (get interface_cmp new)) old.entries
    → AreCostChanges A B found
changes_are A B old new found were are ordered is = subst (AreCostChanges A B) (sym is) (record { in_order = order; whole = λ c. (to c, from c) })
  where
    at : Interface → Option ℕ
    at = get interface_cmp new

    kept : List CostChange
    kept = filter_map (change_in at) old.entries

    order : AllPairs (λ (c d : CostChange). IsInterfaceBefore c.interface d.interface) kept
    order =
        kept_order (change_in at) (λ (c d : CostChange). IsInterfaceBefore c.interface d.interface) IsEntryBefore
        (λ a b c d is_c is_d before.
        let one = (change_is a.0 a.1 (at a.0) c is_c).0 in
        let two = (change_is b.0 b.1 (at b.0) d is_d).0 in
        subst (λ (i : Interface). IsInterfaceBefore i d.interface) one (subst (λ (j : Interface). IsInterfaceBefore a.0 j) two before))
        old.entries (entries_rise old.entries ordered)

    to : (c : CostChange) → Contains kept c → IsCostChange A B c
    to c h =
        let e = kept_from (change_in at) old.entries c h in
        let says = change_is e.0.0 e.0.1 (at e.0.0) c e.2 in
        let i : Interface = e.0.0 in
        let had : get interface_cmp old i ≡ Some e.0.1 = (btree_map_get_iff total-law interfaces_exact old ordered i e.0.1).1 e.1 in
        let was : IsInterfaceCost A i e.0.1 = (cost_of A i e.0.1 (get interface_cmp old i) (were i)).0 had in
        let now : IsInterfaceCost B i c.after = (cost_of B i c.after (at i) (are i)).0 says.2 in
        record {
          was = subst (λ (j : Interface). IsInterfaceCost A j c.before) says.0 (subst (IsInterfaceCost A i) says.1 was);
          is = subst (λ (j : Interface). IsInterfaceCost B j c.after) says.0 now;
          other = says.3;
        }

    from : (c : CostChange) → IsCostChange A B c → Contains kept c
    from c h =
        let i = c.interface in
        let had : get interface_cmp old i ≡ Some c.before = (cost_of A i c.before (get interface_cmp old i) (were i)).1 h.was in
        let has : at i ≡ Some c.after = (cost_of B i c.after (at i) (are i)).1 h.is in
        kept_to (change_in at) old.entries (i, c.before) c ((btree_map_get_iff total-law interfaces_exact old ordered i c.before).0 had)
        (change_made i c.before c.after (at i) has h.other)
