-- A route in the place of the one to its prefix.
use Rattle.std.proofs.Common.{◌≡◌, ◌<◌, ◌⊎◌, ℕ, List, ◌∷◌, length, get_or, set, refl, sym, ap, subst, ◌∙◌, inl, inr, arith}
use Rattle.std.specs.List.{All, AllPairs}
use Rattle.std.proofs.lemmas.List.{get_or_default, get_or-set_same, get_or-set_other, length-set}
use Rattle.std.proofs.lemmas.List.Elements.{All-head, All-tail, All-weaker, Contains-get_or}
use Rattle.ospf_base.specs.declared.prefix.Prefix.{Prefix}
use Rattle.ospf_base.specs.Prefixes.{Holds, IsPrefixBefore}
use Rattle.ospf_graph.specs.declared.route.Route.{Route}
use Rattle.ospf_graph.specs.Routes.{IsRouteBefore}
use Rattle.ospf_spf.proofs.EditLemmas.{edited_more}
use Rattle.ospf_spf.proofs.OrderLemmas.{changed_table}
use Rattle.ospf_spf.proofs.PrefixOrder.{prefixes_told}
use Rattle.ospf_spf.proofs.PutLemmas.{made_there, set_there}
use Rattle.ospf_spf.specs.Changes.{changed, edited, PutsHops, Reaches}
use Rattle.ospf_spf.specs.Table.{IsBestPlace, IsInOrder}
use Rattle.ospf_spf.specs.declared.changes.Change.{Change}
use Rattle.ospf_spf.specs.declared.changes.Change.TheVariants.{Put, Gone}
use Rattle.ospf_fib.specs.PrefixIndex.Ranges.{IsPlaceFor}
use Rattle.ospf_fib.specs.PrefixIndex.Replaced.{AreRoutesBefore, Replaces}

-- the same prefixes stand at the same places
pub record ArePrefixesKept (old new : List Route) : Type 0 where
  pub long : length new ≡ length old
  pub same : (k : ℕ) (d : Route) → k < length old → (get_or new k d).prefix ≡ (get_or old k d).prefix

three_ways : (i j : ℕ) → (i < j) ⊎ ((i ≡ j) ⊎ (j < i))
three_ways i j = grind arith

pub same_or_other : (i j : ℕ) → (i ≡ j) ⊎ (i ≡ j → ⊥)
same_or_other i j = elim (three_ways i j) [
  | inl less ↦ inr (λ e. omega arith)
  | inr rest ↦ elim rest [ inl same ↦ inl same | inr more ↦ inr (λ e. omega arith) ]
]

-- the place of the route to a prefix that the table has
pub at_place : (routes : List Route) (p : Prefix) (there : Reaches routes p) (d : Route) → (get_or routes there.1.0 d).prefix ≡ p
at_place routes p there d =
    ap (λ (r : Route). r.prefix) (get_or_default routes there.1.0 d there.0 there.1.1 ∙ there.1.2) ∙ there.2

module _ (routes : List Route) (order : AllPairs IsRouteBefore routes) (q : Route) (place : ℕ) (lt : place < length routes)
    (at : (d : Route) → (get_or routes place d).prefix ≡ q.prefix) where
  pub put_is_set : changed routes (Put q) ≡ set routes place q
  put_is_set = sym (set_there routes place q (Put q) lt refl ∙ made_there routes order (Put q) place lt at)

  -- no other route is to the prefix
  pub only_place : (k : ℕ) (d : Route) → k < length routes → (get_or routes k d).prefix ≡ q.prefix → k ≡ place
  only_place k d within same = elim (three_ways k place) [
    | inl less ↦ absurd (prefixes_told.irrefl q.prefix (subst (λ (p : Prefix). IsPrefixBefore p q.prefix) same
        (subst (λ (p : Prefix). IsPrefixBefore (get_or routes k d).prefix p) (at d) (order k place d less lt))))
    | inr rest ↦ elim rest [
      | inl here ↦ here
      | inr more ↦ absurd (prefixes_told.irrefl q.prefix (subst (λ (p : Prefix). IsPrefixBefore q.prefix p) same
          (subst (λ (p : Prefix). IsPrefixBefore p (get_or routes k d).prefix) (at d) (order place k d more within))))
    ]
  ]

  pub route_here : (k : ℕ) (d : Route) → k ≡ place → get_or (set routes place q) k d ≡ q
  route_here k d same = ap (λ (n : ℕ). get_or (set routes place q) n d) same ∙ get_or-set_same routes place q d lt

  pub route_other : (k : ℕ) (d : Route) → (k ≡ place → ⊥) → get_or (set routes place q) k d ≡ get_or routes k d
  route_other k d other = get_or-set_other routes place k q d other

  kept_set : ArePrefixesKept routes (set routes place q)
  kept_set = record {
    long = length-set routes place q;
    same = λ k d within. elim (same_or_other k place) [
      | inl same ↦ ap (λ (r : Route). r.prefix) (route_here k d same) ∙ sym (ap (λ (n : ℕ). (get_or routes n d).prefix) same ∙ at d)
      | inr other ↦ ap (λ (r : Route). r.prefix) (route_other k d other)
    ];
  }

  pub kept_put : ArePrefixesKept routes (changed routes (Put q))
  kept_put = subst (λ (rs : List Route). ArePrefixesKept routes rs) (sym put_is_set) kept_set

  -- the route to the prefix stands behind those before it
  pub place_found : (count : ℕ) → AreRoutesBefore routes q.prefix count → count ≡ place
  place_found count b = elim (three_ways count place) [
    | inl less ↦ absurd (b.behind count q (omega arith) (omega arith) (subst (λ (p : Prefix). IsPrefixBefore (get_or routes count q).prefix p) (at q) (order count place q less lt)))
    | inr rest ↦ elim rest [
      | inl here ↦ here
      | inr more ↦ absurd (prefixes_told.irrefl q.prefix (subst (λ (p : Prefix). IsPrefixBefore p q.prefix) (at q) (b.before place q more lt)))
    ]
  ]

-- what was replaced can be replaced again
pub replaces_kept : (old new : List Route) → ArePrefixesKept old new → (c : Change) → Replaces old c → Replaces new c
replaces_kept old new m (Put q) h =
    let k = h.1.0 in
    let within : k < length old = h.1.1 in
    (get_or new k h.0, Contains-get_or new k h.0 (omega (arith, m.long)), m.same k h.0 within ∙ at_place old q.prefix h h.0)
replaces_kept old new m (Gone p) h = h

-- one change keeps the prefixes
pub kept_by : (routes : List Route) → AllPairs IsRouteBefore routes → (c : Change) → Replaces routes c → ArePrefixesKept routes (changed routes c)
kept_by routes order (Put q) h = kept_put routes order q h.1.0 h.1.1 (at_place routes q.prefix h)
kept_by routes order (Gone p) h = absurd h

-- an address has its answer at the same place
pub place_kept : (old new : List Route) → ArePrefixesKept old new → (address t : ℕ) → IsPlaceFor old address t → IsPlaceFor new address t
place_kept old new m address t h = (
  λ lt. best (h.0 (omega (arith, m.long))),
  λ le k d lt held. h.1 (omega (arith, m.long)) k d (omega (arith, m.long)) (subst (λ (p : Prefix). Holds p address) (m.same k d (omega (arith, m.long))) held),
)
  where
    best : IsBestPlace old address t → IsBestPlace new address t
    best b =
        let within : t < length old = b.within in
        record {
          within = omega (arith, m.long);
          holds = λ d. subst (λ (p : Prefix). Holds p address) (sym (m.same t d within)) (b.holds d);
          longest = λ k d lt held.
              let less : k < length old = omega (arith, m.long) in
              let le = b.longest k d less (subst (λ (p : Prefix). Holds p address) (m.same k d less) held) in
              omega (arith, le, ap (λ (p : Prefix). p.length) (m.same k d less), ap (λ (p : Prefix). p.length) (m.same t d within));
        }

-- what is left of the changes leads from the routes that were made so far to the edited table
pub record IsPutSoFar (routes : List Route) (cs left : List Change) (made : List Route) : Type 0 where
  pub so_far : edited routes cs ≡ edited made left
  pub table : IsInOrder made
  pub replace : All (Replaces made) left
  pub hops : All PutsHops left

pub put_next : (routes : List Route) (cs left rest : List Change) (made : List Route) (q : Route) (count : ℕ) → IsPutSoFar routes cs left made → left ≡ Put q ∷ rest
    → AreRoutesBefore made q.prefix count → (count < length made) × IsPutSoFar routes cs rest (set made count q)
put_next routes cs left rest made q count m is before =
    let replace : All (Replaces made) (Put q ∷ rest) = subst (λ (l : List Change). All (Replaces made) l) is m.replace in
    let hops : All PutsHops (Put q ∷ rest) = subst (λ (l : List Change). All PutsHops l) is m.hops in
    let there : Reaches made q.prefix = All-head (Replaces made) (Put q) rest replace in
    let at = at_place made q.prefix there in
    let order = m.table.in_order in
    let same : count ≡ there.1.0 = place_found made order q there.1.0 there.1.1 at count before in
    let new : changed made (Put q) ≡ set made count q = put_is_set made order q there.1.0 there.1.1 at ∙ ap (λ (n : ℕ). set made n q) (sym same) in
    let kept : ArePrefixesKept made (set made count q) = subst (λ (rs : List Route). ArePrefixesKept made rs) new (kept_put made order q there.1.0 there.1.1 at) in
    let within : there.1.0 < length made = there.1.1 in (
      omega (arith, same),
      record {
        so_far = m.so_far ∙ ap (λ (l : List Change). edited made l) is ∙ edited_more made (Put q) rest ∙ ap (λ (rs : List Route). edited rs rest) new;
        table = subst (λ (rs : List Route). IsInOrder rs) new (changed_table made (Put q) m.table (All-head PutsHops (Put q) rest hops));
        replace = All-weaker (Replaces made) (Replaces (set made count q)) (λ c h. replaces_kept made (set made count q) kept c h) rest (All-tail (Replaces made) (Put q) rest replace);
        hops = All-tail PutsHops (Put q) rest hops;
      },
    )
