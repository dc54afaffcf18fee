-- The merge of two tables that makes their changes.
use Rattle.std.proofs.Common.{subst, ◌≡◌, ◌+◌, ◌<◌, ◌≤◌, ◌⊎◌, ◌↔◌, ℕ, List, [], ◌∷◌, ◌++◌, length, take, drop, get_or, refl, sym, ap, ◌∙◌, inl, inr, arith}
use Rattle.std.specs.List.{All, AllPairs, Contains}
use Rattle.std.proofs.lemmas.List.{append-nil, take_more, drop_more, take_all, drop_all, get_or_default, append_assoc, get_or-take, get_or-drop, length-take-le, length-drop}
use Rattle.std.proofs.lemmas.List.Elements.{All-contains, All-cons, All-more, All-nil, All-push, All-weaker, Contains-append_left, Contains-get_or, Contains-push}
use Rattle.std.proofs.lemmas.List.Quantifiers.{all_pairs_push}
use Rattle.ospf_base.specs.declared.prefix.Prefix.{Prefix}
use Rattle.ospf_base.specs.Prefixes.{IsPrefixBefore}
use Rattle.ospf_graph.specs.declared.route.Route.{Route}
use Rattle.ospf_graph.specs.Routes.{IsRouteBefore}
use Rattle.ospf_spf.proofs.EditLemmas.{changed_at, edited_push, edited_none}
use Rattle.ospf_spf.proofs.PrefixOrder.{prefixes_told}
use Rattle.ospf_spf.specs.Changes.{changed, edited, prefix_of, IsChangeBefore, IsGone, IsNewRoute, PutsHops, Reaches}
use Rattle.ospf_spf.specs.declared.changes.Change.{Change}
use Rattle.ospf_spf.specs.declared.changes.Change.TheVariants.{Put, Gone}

-- the change is one that the two tables differ by
abbrev pub IsReal : List Route → List Route → Change → Type 0
IsReal old new (Put route) = IsNewRoute old new route
IsReal old new (Gone prefix) = IsGone old new prefix

-- the changes of the first routes of both tables: each of these stands before what the other table has left
pub record IsMerged (old new : List Route) (i j : ℕ) (cs : List Change) : Type 0 where
  pub old_within : i ≤ length old
  pub new_within : j ≤ length new
  pub old_first : (k l : ℕ) (d e : Route) → k < i → j ≤ l → l < length new → IsPrefixBefore (get_or old k d).prefix (get_or new l e).prefix
  pub new_first : (k l : ℕ) (d e : Route) → l < j → i ≤ k → k < length old → IsPrefixBefore (get_or new l e).prefix (get_or old k d).prefix
  pub applied : edited old cs ≡ take j new ++ drop i old
  pub in_order : AllPairs IsChangeBefore cs
  pub before_old : (k : ℕ) (d : Route) → i ≤ k → k < length old → All (λ c. IsPrefixBefore (prefix_of c) (get_or old k d).prefix) cs
  pub before_new : (l : ℕ) (e : Route) → j ≤ l → l < length new → All (λ c. IsPrefixBefore (prefix_of c) (get_or new l e).prefix) cs
  pub puts : All (λ r. Contains old r ⊎ Contains cs (Put r)) (take j new)
  pub goes : All (λ r. Reaches new r.prefix ⊎ Contains cs (Gone r.prefix)) (take i old)
  pub real : All (IsReal old new) cs

same_or_more : (i j : ℕ) → i ≤ j → (i ≡ j) ⊎ (i < j)
same_or_more i j le = grind arith

less_or_more : (i j : ℕ) → (i < j) ⊎ (j ≤ i)
less_or_more i j = grind arith

three_ways : (i j : ℕ) → (i < j) ⊎ ((i ≡ j) ⊎ (j < i))
three_ways i j = grind arith

-- what stands before one of a list in order stands before each later one
pub before_rest : (p : Prefix) (xs : List Route) (j : ℕ) → AllPairs IsRouteBefore xs → ((e : Route) → IsPrefixBefore p (get_or xs j e).prefix)
    → (l : ℕ) (e : Route) → j ≤ l → l < length xs → IsPrefixBefore p (get_or xs l e).prefix
before_rest p xs j ordered first l e le lt =
    elim (same_or_more j l le) [
      | inl same ↦ subst (λ (k : ℕ). IsPrefixBefore p (get_or xs k e).prefix) same (first e)
      | inr more ↦ prefixes_told.trans p (get_or xs j e).prefix (get_or xs l e).prefix (first e) (ordered j l e more lt)
    ]

-- all that the list has from a place on
pub from_place : (P : Route → Type 0) (xs : List Route) (j : ℕ) → ((l : ℕ) (e : Route) → j ≤ l → l < length xs → P (get_or xs l e)) → All P (drop j xs)
from_place P xs j h k d lt =
    let long = length-drop j xs in
    rw get_or-drop (h (j + k) d (omega arith) (omega arith))

-- and up to a place
pub to_place : (P : Route → Type 0) (xs : List Route) (j : ℕ) → j ≤ length xs → ((l : ℕ) (e : Route) → l < j → P (get_or xs l e)) → All P (take j xs)
to_place P xs j le h k d lt =
    let long = length-take-le j xs le in
    let less : k < j = omega arith in
    rw get_or-take (h k d less)

pub start : (old new : List Route) → IsMerged old new 0 0 []
start old new =
    record {
      old_within = omega arith;
      new_within = omega arith;
      old_first = λ k l d e lt le within. absurd (omega arith);
      new_first = λ k l d e lt le within. absurd (omega arith);
      applied = edited_none old;
      in_order = λ i j d lt within. absurd (omega arith);
      before_old = λ k d le lt. All-nil _;
      before_new = λ k d le lt. All-nil _;
      puts = All-nil _;
      goes = All-nil _;
      real = All-nil _;
    }

module _ (old new : List Route) (i j : ℕ) (cs : List Change) (old_order : AllPairs IsRouteBefore old) (new_order : AllPairs IsRouteBefore new)
    (m : IsMerged old new i j cs) where
  -- a route that is left of the old table, and stands before what is left of the new one
  module _ (d : Route) (lt : i < length old) (first : (l : ℕ) (e : Route) → j ≤ l → l < length new → IsPrefixBefore (get_or old i d).prefix (get_or new l e).prefix) where
    gone : Route
    gone = get_or old i d

    pub at_default : (e : Route) → get_or old i d ≡ get_or old i e
    at_default e = get_or_default old i d e lt

    not_reached : Reaches new (get_or old i d).prefix → ⊥
    not_reached r =
        let place = r.1.0 in
        let is : (get_or new place r.0).prefix ≡ (get_or old i d).prefix = ap (λ x. x.prefix) r.1.2 ∙ r.2 in
        let no = λ (q : Prefix) (b : IsPrefixBefore q q). prefixes_told.irrefl q b in
        elim (less_or_more place j) [
          | inl less ↦ no (get_or old i d).prefix (subst (λ (q : Prefix). IsPrefixBefore q (get_or old i d).prefix) is (m.new_first i place d r.0 less (omega arith) lt))
          | inr more ↦ no (get_or old i d).prefix (subst (λ (q : Prefix). IsPrefixBefore (get_or old i d).prefix q) is (first place r.0 more r.1.1))
        ]

    pub old_next : IsMerged old new (i + 1) j (cs ++ Gone (get_or old i d).prefix ∷ [])
    old_next =
        let c = Gone (get_or old i d).prefix in
        let before : All (λ r. IsPrefixBefore r.prefix (prefix_of c)) (take j new) =
        to_place (λ r. IsPrefixBefore r.prefix (prefix_of c)) new j m.new_within (λ l e less. m.new_first i l d e less (omega arith) lt) in
        let behind : All (λ r. IsPrefixBefore (prefix_of c) r.prefix) (drop (i + 1) old) =
        from_place (λ r. IsPrefixBefore (prefix_of c) r.prefix) old (i + 1)
        (λ l e le within. subst (λ (r : Route). IsPrefixBefore r.prefix (get_or old l e).prefix) (sym (at_default e)) (old_order i l e (omega arith) within)) in
        let at : All (λ r. r.prefix ≡ prefix_of c) (get_or old i d ∷ []) = All-cons (λ (r : Route). r.prefix ≡ prefix_of c) (get_or old i d) [] refl (All-nil _) in
        let split : take j new ++ drop i old ≡ take j new ++ ((get_or old i d ∷ []) ++ drop (i + 1) old) = ap (λ l. take j new ++ l) (drop_more old i d lt) in
        record {
          old_within = omega arith;
          new_within = m.new_within;
          old_first = λ k l a e less le within.
              elim (same_or_more k i (omega arith)) [
                | inl same ↦ subst (λ (n : ℕ). IsPrefixBefore (get_or old n a).prefix (get_or new l e).prefix) (sym same)
                    (subst (λ (r : Route). IsPrefixBefore r.prefix (get_or new l e).prefix) (at_default a) (first l e le within))
                | inr earlier ↦ m.old_first k l a e earlier le within
              ];
          new_first = λ k l a e less le within. m.new_first k l a e less (omega arith) within;
          applied = edited_push old cs c ∙ ap (λ l. changed l c) (m.applied ∙ split) ∙ changed_at (take j new) (get_or old i d ∷ []) (drop (i + 1) old) c before at behind;
          in_order = all_pairs_push IsChangeBefore cs c m.in_order (m.before_old i d (omega arith) lt);
          before_old = λ k e le within. All-push (λ c. IsPrefixBefore (prefix_of c) (get_or old k e).prefix) cs c (m.before_old k e (omega arith) within)
              (subst (λ (r : Route). IsPrefixBefore r.prefix (get_or old k e).prefix) (sym (at_default e)) (old_order i k e (omega arith) within));
          before_new = λ l e le within. All-push (λ c. IsPrefixBefore (prefix_of c) (get_or new l e).prefix) cs c (m.before_new l e le within) (first l e le within);
          puts = All-weaker (λ r. Contains old r ⊎ Contains cs (Put r)) (λ r. Contains old r ⊎ Contains (cs ++ c ∷ []) (Put r))
              (λ r h. elim h [ inl o ↦ inl o | inr p ↦ inr (Contains-append_left cs (c ∷ []) (Put r) p) ]) (take j new) m.puts;
          goes = All-more (λ r. Reaches new r.prefix ⊎ Contains (cs ++ c ∷ []) (Gone r.prefix)) old i d lt
              (All-weaker (λ r. Reaches new r.prefix ⊎ Contains cs (Gone r.prefix)) (λ r. Reaches new r.prefix ⊎ Contains (cs ++ c ∷ []) (Gone r.prefix))
              (λ r h. elim h [ inl o ↦ inl o | inr p ↦ inr (Contains-append_left cs (c ∷ []) (Gone r.prefix) p) ]) (take i old) m.goes)
              (inr (Contains-push cs c));
          real = All-push (IsReal old new) cs c m.real ((get_or old i d, Contains-get_or old i d lt, refl), not_reached);
        }

  -- a route that is left of the new table, and stands before what is left of the old one
  module _ (d : Route) (lt : j < length new) (first : (k : ℕ) (e : Route) → i ≤ k → k < length old → IsPrefixBefore (get_or new j d).prefix (get_or old k e).prefix) where
    new_default : (e : Route) → get_or new j d ≡ get_or new j e
    new_default e = get_or_default new j d e lt

    not_had : Contains old (get_or new j d) → ⊥
    not_had h =
        let p = (get_or new j d).prefix in
        let is : (get_or old h.0 (get_or new j d)).prefix ≡ p = ap (λ x. x.prefix) h.2 in
        elim (less_or_more h.0 i) [
          | inl less ↦ prefixes_told.irrefl p (subst (λ (q : Prefix). IsPrefixBefore q p) is (m.old_first h.0 j (get_or new j d) d less (omega arith) lt))
          | inr more ↦ prefixes_told.irrefl p (subst (λ (q : Prefix). IsPrefixBefore p q) is (first h.0 (get_or new j d) more h.1))
        ]

    pub new_next : IsMerged old new i (j + 1) (cs ++ Put (get_or new j d) ∷ [])
    new_next =
        let c = Put (get_or new j d) in
        let before : All (λ r. IsPrefixBefore r.prefix (prefix_of c)) (take j new) =
        to_place (λ r. IsPrefixBefore r.prefix (prefix_of c)) new j m.new_within
        (λ l e less. subst (λ (r : Route). IsPrefixBefore (get_or new l e).prefix r.prefix) (sym (new_default e)) (new_order l j e less lt)) in
        let behind : All (λ r. IsPrefixBefore (prefix_of c) r.prefix) (drop i old) = from_place (λ r. IsPrefixBefore (prefix_of c) r.prefix) old i first in
        let more : take (j + 1) new ++ drop i old ≡ take j new ++ (get_or new j d ∷ drop i old) =
        ap (λ l. l ++ drop i old) (take_more new j d lt) ∙ append_assoc (take j new) (get_or new j d ∷ []) (drop i old) in
        record {
          old_within = m.old_within;
          new_within = omega arith;
          old_first = λ k l a e less le within. m.old_first k l a e less (omega arith) within;
          new_first = λ k l a e less le within.
              elim (same_or_more l j (omega arith)) [
                | inl same ↦ subst (λ (n : ℕ). IsPrefixBefore (get_or new n e).prefix (get_or old k a).prefix) (sym same)
                    (subst (λ (r : Route). IsPrefixBefore r.prefix (get_or old k a).prefix) (new_default e) (first k a le within))
                | inr earlier ↦ m.new_first k l a e earlier le within
              ];
          applied = edited_push old cs c ∙ ap (λ l. changed l c) m.applied ∙ changed_at (take j new) [] (drop i old) c before (All-nil _) behind ∙ sym more;
          in_order = all_pairs_push IsChangeBefore cs c m.in_order (m.before_new j d (omega arith) lt);
          before_old = λ k e le within. All-push (λ c. IsPrefixBefore (prefix_of c) (get_or old k e).prefix) cs c (m.before_old k e le within) (first k e le within);
          before_new = λ l e le within. All-push (λ c. IsPrefixBefore (prefix_of c) (get_or new l e).prefix) cs c (m.before_new l e (omega arith) within)
              (subst (λ (r : Route). IsPrefixBefore r.prefix (get_or new l e).prefix) (sym (new_default e)) (new_order j l e (omega arith) within));
          puts = All-more (λ r. Contains old r ⊎ Contains (cs ++ c ∷ []) (Put r)) new j d lt
              (All-weaker (λ r. Contains old r ⊎ Contains cs (Put r)) (λ r. Contains old r ⊎ Contains (cs ++ c ∷ []) (Put r))
              (λ r h. elim h [ inl o ↦ inl o | inr p ↦ inr (Contains-append_left cs (c ∷ []) (Put r) p) ]) (take j new) m.puts)
              (inr (Contains-push cs c));
          goes = All-weaker (λ r. Reaches new r.prefix ⊎ Contains cs (Gone r.prefix)) (λ r. Reaches new r.prefix ⊎ Contains (cs ++ c ∷ []) (Gone r.prefix))
              (λ r h. elim h [ inl o ↦ inl o | inr p ↦ inr (Contains-append_left cs (c ∷ []) (Gone r.prefix) p) ]) (take i old) m.goes;
          real = All-push (IsReal old new) cs c m.real (Contains-get_or new j d lt, not_had);
        }

  -- a route of each to one prefix
  module _ (a b : Route) (old_lt : i < length old) (new_lt : j < length new) (one : (get_or old i a).prefix ≡ (get_or new j b).prefix) where
    both_old : (e : Route) → get_or old i a ≡ get_or old i e
    both_old e = get_or_default old i a e old_lt

    both_new : (e : Route) → get_or new j b ≡ get_or new j e
    both_new e = get_or_default new j b e new_lt

    old_before : (k l : ℕ) (d e : Route) → k < i + 1 → j + 1 ≤ l → l < length new → IsPrefixBefore (get_or old k d).prefix (get_or new l e).prefix
    old_before k l d e less le within =
        elim (same_or_more k i (omega arith)) [
          | inr earlier ↦ m.old_first k l d e earlier (omega arith) within
          | inl same ↦
              let here : IsPrefixBefore (get_or new j b).prefix (get_or new l e).prefix =
              subst (λ (r : Route). IsPrefixBefore r.prefix (get_or new l e).prefix) (sym (both_new e)) (new_order j l e (omega arith) within) in
              let there : IsPrefixBefore (get_or old i a).prefix (get_or new l e).prefix = subst (λ (p : Prefix). IsPrefixBefore p (get_or new l e).prefix) (sym one) here in
              subst (λ (n : ℕ). IsPrefixBefore (get_or old n d).prefix (get_or new l e).prefix) (sym same)
              (subst (λ (r : Route). IsPrefixBefore r.prefix (get_or new l e).prefix) (both_old d) there)
        ]

    new_before : (k l : ℕ) (d e : Route) → l < j + 1 → i + 1 ≤ k → k < length old → IsPrefixBefore (get_or new l e).prefix (get_or old k d).prefix
    new_before k l d e less le within =
        elim (same_or_more l j (omega arith)) [
          | inr earlier ↦ m.new_first k l d e earlier (omega arith) within
          | inl same ↦
              let here : IsPrefixBefore (get_or old i a).prefix (get_or old k d).prefix =
              subst (λ (r : Route). IsPrefixBefore r.prefix (get_or old k d).prefix) (sym (both_old d)) (old_order i k d (omega arith) within) in
              let there : IsPrefixBefore (get_or new j b).prefix (get_or old k d).prefix = subst (λ (p : Prefix). IsPrefixBefore p (get_or old k d).prefix) one here in
              subst (λ (n : ℕ). IsPrefixBefore (get_or new n e).prefix (get_or old k d).prefix) (sym same)
              (subst (λ (r : Route). IsPrefixBefore r.prefix (get_or old k d).prefix) (both_new e) there)
        ]

    reached : Reaches new (get_or old i a).prefix
    reached = (get_or new j b, Contains-get_or new j b new_lt, sym one)

    pub both_same : get_or old i a ≡ get_or new j b → IsMerged old new (i + 1) (j + 1) cs
    both_same same =
        let more : take (j + 1) new ++ drop (i + 1) old ≡ take j new ++ drop i old =
        ap (λ l. l ++ drop (i + 1) old) (take_more new j b new_lt) ∙ append_assoc (take j new) (get_or new j b ∷ []) (drop (i + 1) old)
        ∙ ap (λ (r : Route). take j new ++ (r ∷ drop (i + 1) old)) (sym same) ∙ ap (λ l. take j new ++ l) (sym (drop_more old i a old_lt)) in
        record {
          old_within = omega arith;
          new_within = omega arith;
          old_first = old_before;
          new_first = new_before;
          applied = m.applied ∙ sym more;
          in_order = m.in_order;
          before_old = λ k e le within. m.before_old k e (omega arith) within;
          before_new = λ l e le within. m.before_new l e (omega arith) within;
          puts = All-more (λ r. Contains old r ⊎ Contains cs (Put r)) new j b new_lt m.puts (inl (subst (λ (r : Route). Contains old r) same (Contains-get_or old i a old_lt)));
          goes = All-more (λ r. Reaches new r.prefix ⊎ Contains cs (Gone r.prefix)) old i a old_lt m.goes (inl reached);
          real = m.real;
        }

    differs : (get_or old i a ≡ get_or new j b → ⊥) → Contains old (get_or new j b) → ⊥
    differs other h =
        let r = get_or new j b in
        let is : (get_or old h.0 r).prefix ≡ r.prefix = ap (λ x. x.prefix) h.2 in
        elim (three_ways h.0 i) [
          | inl less ↦ prefixes_told.irrefl r.prefix (subst (λ (q : Prefix). IsPrefixBefore q r.prefix) is (m.old_first h.0 j r b less (omega arith) new_lt))
          | inr rest ↦ elim rest [
            | inl same ↦ other (both_old r ∙ subst (λ (n : ℕ). get_or old n r ≡ r) same h.2)
            | inr more ↦ prefixes_told.irrefl r.prefix (subst (λ (q : Prefix). IsPrefixBefore r.prefix q) is (new_before h.0 j r b (omega arith) (omega arith) h.1))
          ]
        ]

    pub both_differ : (get_or old i a ≡ get_or new j b → ⊥) → IsMerged old new (i + 1) (j + 1) (cs ++ Put (get_or new j b) ∷ [])
    both_differ other =
        let c = Put (get_or new j b) in
        let before : All (λ r. IsPrefixBefore r.prefix (prefix_of c)) (take j new) =
        to_place (λ r. IsPrefixBefore r.prefix (prefix_of c)) new j m.new_within
        (λ l e less. subst (λ (r : Route). IsPrefixBefore (get_or new l e).prefix r.prefix) (sym (both_new e)) (new_order l j e less new_lt)) in
        let behind : All (λ r. IsPrefixBefore (prefix_of c) r.prefix) (drop (i + 1) old) =
        from_place (λ r. IsPrefixBefore (prefix_of c) r.prefix) old (i + 1) (λ k d le within. new_before k j d b (omega arith) le within) in
        let at : All (λ r. r.prefix ≡ prefix_of c) (get_or old i a ∷ []) = All-cons (λ (r : Route). r.prefix ≡ prefix_of c) (get_or old i a) [] one (All-nil _) in
        let split : take j new ++ drop i old ≡ take j new ++ ((get_or old i a ∷ []) ++ drop (i + 1) old) = ap (λ l. take j new ++ l) (drop_more old i a old_lt) in
        let more : take (j + 1) new ++ drop (i + 1) old ≡ take j new ++ (get_or new j b ∷ drop (i + 1) old) =
        ap (λ l. l ++ drop (i + 1) old) (take_more new j b new_lt) ∙ append_assoc (take j new) (get_or new j b ∷ []) (drop (i + 1) old) in
        record {
          old_within = omega arith;
          new_within = omega arith;
          old_first = old_before;
          new_first = new_before;
          applied = edited_push old cs c ∙ ap (λ l. changed l c) (m.applied ∙ split)
              ∙ changed_at (take j new) (get_or old i a ∷ []) (drop (i + 1) old) c before at behind ∙ sym more;
          in_order = all_pairs_push IsChangeBefore cs c m.in_order (m.before_new j b (omega arith) new_lt);
          before_old = λ k e le within. All-push (λ c. IsPrefixBefore (prefix_of c) (get_or old k e).prefix) cs c (m.before_old k e (omega arith) within)
              (new_before k j e b (omega arith) le within);
          before_new = λ l e le within. All-push (λ c. IsPrefixBefore (prefix_of c) (get_or new l e).prefix) cs c (m.before_new l e (omega arith) within)
              (subst (λ (r : Route). IsPrefixBefore r.prefix (get_or new l e).prefix) (sym (both_new e)) (new_order j l e (omega arith) within));
          puts = All-more (λ r. Contains old r ⊎ Contains (cs ++ c ∷ []) (Put r)) new j b new_lt
              (All-weaker (λ r. Contains old r ⊎ Contains cs (Put r)) (λ r. Contains old r ⊎ Contains (cs ++ c ∷ []) (Put r))
              (λ r h. elim h [ inl o ↦ inl o | inr p ↦ inr (Contains-append_left cs (c ∷ []) (Put r) p) ]) (take j new) m.puts)
              (inr (Contains-push cs c));
          goes = All-more (λ r. Reaches new r.prefix ⊎ Contains (cs ++ c ∷ []) (Gone r.prefix)) old i a old_lt
              (All-weaker (λ r. Reaches new r.prefix ⊎ Contains cs (Gone r.prefix)) (λ r. Reaches new r.prefix ⊎ Contains (cs ++ c ∷ []) (Gone r.prefix))
              (λ r h. elim h [ inl o ↦ inl o | inr p ↦ inr (Contains-append_left cs (c ∷ []) (Gone r.prefix) p) ]) (take i old) m.goes)
              (inl reached);
          real = All-push (IsReal old new) cs c m.real (Contains-get_or new j b new_lt, differs other);
        }

-- at the end of both tables
module _ (old new : List Route) (i j : ℕ) (cs : List Change) (m : IsMerged old new i j cs) (old_end : i ≡ length old) (new_end : j ≡ length new) where
  pub all_puts : (route : Route) → Contains cs (Put route) ↔ IsNewRoute old new route
  all_puts route = (
    (λ h. All-contains (IsReal old new) cs (Put route) m.real h),
    λ is.
        let all : take j new ≡ new = take_all j new (omega arith) in
        let here = All-contains (λ r. Contains old r ⊎ Contains cs (Put r)) new route (subst (All (λ r. Contains old r ⊎ Contains cs (Put r))) all m.puts) is.0 in
        elim here [ inl had ↦ absurd (is.1 had) | inr put ↦ put ],
  )

  pub all_gone : (prefix : Prefix) → Contains cs (Gone prefix) ↔ IsGone old new prefix
  all_gone prefix = (
    (λ h. All-contains (IsReal old new) cs (Gone prefix) m.real h),
    λ is.
        let all : take i old ≡ old = take_all i old (omega arith) in
        let P : Route → Type 0 = λ r. Reaches new r.prefix ⊎ Contains cs (Gone r.prefix) in
        let here = All-contains P old is.0.0 (subst (All P) all m.goes) is.0.1 in
        elim here [
          | inl reached ↦ absurd (is.1 (subst (λ (p : Prefix). Reaches new p) is.0.2 reached))
          | inr gone ↦ subst (λ (p : Prefix). Contains cs (Gone p)) is.0.2 gone
        ],
  )

-- routes with hops make changes with hops
pub puts_hops : (old new : List Route) (cs : List Change) → All (λ r. 0 < length r.hops) new → ((route : Route) → Contains cs (Put route) ↔ IsNewRoute old new route) → All PutsHops cs
puts_hops old new cs hops puts k d lt = each (get_or cs k d) (Contains-get_or cs k d lt)
  where
    each : (c : Change) → Contains cs c → PutsHops c
    each (Put route) h = All-contains (λ r. 0 < length r.hops) new route hops ((puts route).0 h).0
    each (Gone prefix) h = tt
