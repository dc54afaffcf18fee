-- Edited tables stay in order; routes that are parted at a prefix.
use Rattle.std.proofs.Common.{subst, ◌≡◌, ◌<◌, ◌⊎◌, ℕ, true, zero, suc, List, [], ◌∷◌, ◌++◌, length, drop, get_or, refl, sym, ap, ◌∙◌, inl, inr, arith, Less, Equal, Greater, Ordering}
use Rattle.std.specs.List.{All, AllPairs, Contains, filter}
use Rattle.std.specs.Ordering.{MatchOrdering}
use Rattle.std.proofs.lemmas.List.{append-nil, append_assoc, get_or_default}
use Rattle.std.proofs.lemmas.List.Elements.{All-append, All-cons, All-contains, All-filter, All-head, All-nil, All-push, All-tail, All-weaker, Contains-get_or, Contains-append_cases, filter_passes}
use Rattle.std.proofs.lemmas.List.Kept.{AllPairs-cons, AllPairs-filter}
use Rattle.ospf_base.specs.declared.prefix.Prefix.{Prefix}
use Rattle.ospf_base.specs.Prefixes.{IsPrefixBefore}
use Rattle.ospf_graph.specs.declared.route.Route.{Route}
use Rattle.ospf_graph.specs.Routes.{IsRouteBefore}
use Rattle.ospf_graph.proofs.ListLemmas.{member_later, member_head}
use Rattle.ospf_graph.proofs.TableLemmas.{head_before, pairs_tail}
use Rattle.ospf_spf.proofs.ChangeLemmas.{before_rest}
use Rattle.ospf_spf.proofs.EditLemmas.{told, changed_at, edited_none, edited_more}
use Rattle.ospf_spf.proofs.PrefixOrder.{prefix_cmp, prefixes_told}
use Rattle.ospf_spf.specs.Changes.{changed, edited, prefix_of, put_of, stands_before, FirstIs, IsChangeBefore, IsMoved, IsParted, PutsHops}
use Rattle.ospf_spf.specs.Table.{IsInOrder}
use Rattle.ospf_spf.specs.declared.changes.Change.{Change}
use Rattle.ospf_spf.specs.declared.changes.Change.TheVariants.{Put, Gone}

module _ {X : Type 0} (R : X → X → Type 0) where
  members : (P : X → Type 0) (xs : List X) → ((x : X) → Contains xs x → P x) → All P xs
  members P xs h = λ k d lt. h (get_or xs k d) (Contains-get_or xs k d lt)

  pub pairs_append : (xs ys : List X) → AllPairs R xs → AllPairs R ys → ((y z : X) → Contains xs y → Contains ys z → R y z) → AllPairs R (xs ++ ys)
  pairs_append [] ys hx hy cross = hy
  pairs_append (x ∷ xs) ys hx hy cross =
      AllPairs-cons R x (xs ++ ys)
      (All-append (R x) xs ys (members (R x) xs (λ z h. head_before R x xs hx z h)) (members (R x) ys (λ z h. cross x z (member_head x xs) h)))
      (pairs_append xs ys (pairs_tail R x xs hx) hy (λ y z h k. cross y z (member_later x xs y h) k))

  pub pairs_back : (xs ys : List X) → AllPairs R (xs ++ ys) → AllPairs R ys
  pairs_back [] ys h = h
  pairs_back (x ∷ xs) ys h = pairs_back xs ys (pairs_tail R x (xs ++ ys) h)

put_order : (c : Change) → AllPairs IsRouteBefore (put_of c)
put_order (Put route) = AllPairs-cons IsRouteBefore route [] (All-nil _) (λ i j d lt low. absurd (omega arith))
put_order (Gone prefix) = λ i j d lt low. absurd (omega arith)

pub put_at : (c : Change) (r : Route) → Contains (put_of c) r → r.prefix ≡ prefix_of c
put_at (Put route) r h = single h.0 h.1 h.2
  where
    single : (k : ℕ) → k < length (route ∷ []) → get_or (route ∷ []) k r ≡ r → r.prefix ≡ route.prefix
    single zero lt e = ap (λ x. x.prefix) (sym e)
    single (suc k) lt e = absurd (omega arith)
put_at (Gone prefix) r h = absurd (let low = h.1 in omega arith)

put_hops : (c : Change) → PutsHops c → All (λ r. 0 < length r.hops) (put_of c)
put_hops (Put route) h = All-cons (λ (r : Route). 0 < length r.hops) route [] h (All-nil _)
put_hops (Gone prefix) h = All-nil _

-- one change leaves a table in order
pub changed_table : (routes : List Route) (c : Change) → IsInOrder routes → PutsHops c → IsInOrder (changed routes c)
unfolding changed
changed_table routes c table hops =
    let p = prefix_of c in
    let front = filter (λ (r : Route). stands_before r.prefix p) routes in
    let back = filter (λ (r : Route). stands_before p r.prefix) routes in
    let in_front : (r : Route) → Contains front r → IsPrefixBefore r.prefix p =
    λ r h. (told r.prefix p).0 (All-contains (λ (x : Route). stands_before x.prefix p ≡ true) front r (filter_passes (λ (x : Route). stands_before x.prefix p) routes) h) in
    let in_back : (r : Route) → Contains back r → IsPrefixBefore p r.prefix =
    λ r h. (told p r.prefix).0 (All-contains (λ (x : Route). stands_before p x.prefix ≡ true) back r (filter_passes (λ (x : Route). stands_before p x.prefix) routes) h) in
    let later : AllPairs IsRouteBefore (put_of c ++ back) =
    pairs_append IsRouteBefore (put_of c) back (put_order c) (AllPairs-filter IsRouteBefore (λ (r : Route). stands_before p r.prefix) routes table.in_order)
    (λ y z hy hz. subst (λ (q : Prefix). IsPrefixBefore q z.prefix) (sym (put_at c y hy)) (in_back z hz)) in
    record {
      in_order = pairs_append IsRouteBefore front (put_of c ++ back) (AllPairs-filter IsRouteBefore (λ (r : Route). stands_before r.prefix p) routes table.in_order) later
          (λ y z hy hz. elim (Contains-append_cases (put_of c) back z hz) [
            | inl at ↦ subst (λ (q : Prefix). IsPrefixBefore y.prefix q) (sym (put_at c z at)) (in_front y hy)
            | inr behind ↦ prefixes_told.trans y.prefix p z.prefix (in_front y hy) (in_back z behind)
          ]);
      have_hops = All-append (λ (r : Route). 0 < length r.hops) front (put_of c ++ back)
          (All-filter (λ (r : Route). stands_before r.prefix p) (λ (r : Route). 0 < length r.hops) routes table.have_hops)
          (All-append (λ (r : Route). 0 < length r.hops) (put_of c) back (put_hops c hops)
          (All-filter (λ (r : Route). stands_before p r.prefix) (λ (r : Route). 0 < length r.hops) routes table.have_hops));
    }

-- and so do all changes
pub edited_table : (routes : List Route) (cs : List Change) → IsInOrder routes → All PutsHops cs → IsInOrder (edited routes cs)
edited_table routes [] table hops = subst (λ (l : List Route). IsInOrder l) (sym (edited_none routes)) table
edited_table routes (c ∷ cs) table hops =
    subst (λ (l : List Route). IsInOrder l) (sym (edited_more routes c cs))
    (edited_table (changed routes c) cs (changed_table routes c table (All-head PutsHops c cs hops)) (All-tail PutsHops c cs hops))

pub three_orders : (p q : Prefix) → IsPrefixBefore p q ⊎ ((p ≡ q) ⊎ IsPrefixBefore q p)
three_orders p q = by (prefix_cmp p q) (prefixes_told.ranks p q)
  where
    by : (o : Ordering) → MatchOrdering o (IsPrefixBefore p q) (p ≡ q) (IsPrefixBefore q p) → IsPrefixBefore p q ⊎ ((p ≡ q) ⊎ IsPrefixBefore q p)
    by Less h = inl h
    by Equal h = inr (inl h)
    by Greater h = inr (inr h)

-- where the first route stands neither before nor at the prefix, all stand behind
pub all_behind : (p : Prefix) (xs : List Route) → AllPairs IsRouteBefore xs → (FirstIs IsPrefixBefore xs p → ⊥) → (FirstIs (λ a b. a ≡ b) xs p → ⊥)
    → All (λ r. IsPrefixBefore p r.prefix) xs
all_behind p xs order not_before not_at k d lt =
    before_rest p xs 0 order (λ e.
    let same = λ (f : Route). get_or_default xs 0 e f (omega arith) in
    elim (three_orders (get_or xs 0 e).prefix p) [
      | inl before ↦ absurd (not_before (omega arith, λ f. subst (λ (r : Route). IsPrefixBefore r.prefix p) (same f) before))
      | inr rest ↦ elim rest [
        | inl at ↦ absurd (not_at (omega arith, λ f. subst (λ (r : Route). r.prefix ≡ p) (same f) at))
        | inr behind ↦ behind
      ]
    ]) k d (omega arith) lt

-- behind the first, where that is at the prefix
pub rest_behind : (p : Prefix) (x : Route) (xs : List Route) → AllPairs IsRouteBefore (x ∷ xs) → x.prefix ≡ p → All (λ r. IsPrefixBefore p r.prefix) xs
rest_behind p x xs order at k d lt =
    subst (λ (q : Prefix). IsPrefixBefore q (get_or xs k d).prefix) at (head_before IsRouteBefore x xs order (get_or xs k d) (Contains-get_or xs k d lt))

-- one route more is moved
pub one_moved : (p : Prefix) (left made left_before made_before left_after : List Route) (r : Route) → IsMoved p left made left_before made_before
    → left_before ≡ r ∷ left_after → FirstIs IsPrefixBefore left_before p → IsMoved p left made left_after (made_before ++ r ∷ [])
one_moved p left made left_before made_before left_after r m is first =
    let here : IsPrefixBefore r.prefix p = subst (λ (l : List Route). IsPrefixBefore (get_or l 0 r).prefix p) is (first.1 r) in
    record {
      moved = m.moved ++ r ∷ [];
      left_is = m.left_is ∙ ap (λ l. m.moved ++ l) is ∙ sym (append_assoc m.moved (r ∷ []) left_after);
      made_is = ap (λ l. l ++ r ∷ []) m.made_is ∙ append_assoc made m.moved (r ∷ []);
      before = All-push (λ x. IsPrefixBefore x.prefix p) m.moved r m.before here;
    }

-- the route to the prefix is not left
pub parted_none : (p : Prefix) (left made left_after made_after : List Route) → AllPairs IsRouteBefore left → IsMoved p left made left_after made_after
    → (FirstIs IsPrefixBefore left_after p → ⊥) → (FirstIs (λ a b. a ≡ b) left_after p → ⊥) → IsParted p left made left_after made_after
parted_none p left made left_after made_after order m not_before not_at =
    let rest : AllPairs IsRouteBefore left_after = pairs_back IsRouteBefore m.moved left_after (subst (λ (l : List Route). AllPairs IsRouteBefore l) m.left_is order) in
    record {
      moved = m.moved;
      left_out = [];
      left_is = m.left_is;
      made_is = m.made_is;
      before = m.before;
      same = All-nil _;
      behind = all_behind p left_after rest not_before not_at;
    }

-- or is left out
pub parted_one : (p : Prefix) (left made left_before made_after left_after : List Route) (r : Route) → AllPairs IsRouteBefore left → IsMoved p left made left_before made_after
    → left_before ≡ r ∷ left_after → FirstIs (λ a b. a ≡ b) left_before p → IsParted p left made left_after made_after
parted_one p left made left_before made_after left_after r order m is first =
    let here : r.prefix ≡ p = subst (λ (l : List Route). (get_or l 0 r).prefix ≡ p) is (first.1 r) in
    let whole : left ≡ m.moved ++ (r ∷ left_after) = m.left_is ∙ ap (λ l. m.moved ++ l) is in
    let rest : AllPairs IsRouteBefore (r ∷ left_after) = pairs_back IsRouteBefore m.moved (r ∷ left_after) (subst (λ (l : List Route). AllPairs IsRouteBefore l) whole order) in
    record {
      moved = m.moved;
      left_out = r ∷ [];
      left_is = whole;
      made_is = m.made_is;
      before = m.before;
      same = All-cons (λ (x : Route). x.prefix ≡ p) r [] here (All-nil _);
      behind = rest_behind p r left_after rest here;
    }

-- what is made and what is left comes to the edited table by the changes that are left
pub record IsEdited (routes : List Route) (cs rest : List Change) (left made : List Route) : Type 0 where
  pub so_far : edited routes cs ≡ edited (made ++ left) rest
  pub order : AllPairs IsRouteBefore left
  pub changes : AllPairs IsChangeBefore rest
  pub before : All (λ c. All (λ r. IsPrefixBefore r.prefix (prefix_of c)) made) rest

pub edit_start : (routes : List Route) (cs : List Change) → AllPairs IsRouteBefore routes → AllPairs IsChangeBefore cs → IsEdited routes cs cs routes []
edit_start routes cs order changes = record { so_far = refl; order = order; changes = changes; before = λ j d lt. All-nil _ }

members_all : (P : Route → Type 0) (xs : List Route) → ((x : Route) → Contains xs x → P x) → All P xs
members_all P xs h = λ k d lt. h (get_or xs k d) (Contains-get_or xs k d lt)

pub edit_next : (routes : List Route) (cs rest rest_after : List Change) (c : Change) (left made left_after made_after : List Route) → rest ≡ c ∷ rest_after
    → IsEdited routes cs rest left made → IsParted (prefix_of c) left made left_after made_after
    → IsEdited routes cs rest_after left_after (made_after ++ put_of c)
edit_next routes cs rest rest_after c left made left_after made_after is e p =
    let before_c = λ (x : Change) (r : Route). IsPrefixBefore r.prefix (prefix_of x) in
    let before : All (λ x. All (before_c x) made) (c ∷ rest_after) = subst (λ (l : List Change). All (λ x. All (before_c x) made) l) is e.before in
    let changes : AllPairs IsChangeBefore (c ∷ rest_after) = subst (λ (l : List Change). AllPairs IsChangeBefore l) is e.changes in
    let whole : made ++ left ≡ (made ++ p.moved) ++ (p.left_out ++ left_after) =
    ap (λ l. made ++ l) p.left_is ∙ sym (append_assoc made p.moved (p.left_out ++ left_after)) in
    let first : All (before_c c) (made ++ p.moved) =
    All-append (before_c c) made p.moved (All-head (λ x. All (before_c x) made) c rest_after before) p.before in
    let at = changed_at (made ++ p.moved) p.left_out left_after c first p.same p.behind in
    let done : (made ++ p.moved) ++ (put_of c ++ left_after) ≡ (made_after ++ put_of c) ++ left_after =
    ap (λ l. l ++ (put_of c ++ left_after)) (sym p.made_is) ∙ sym (append_assoc made_after (put_of c) left_after) in
    record {
      so_far = e.so_far ∙ ap (λ l. edited (made ++ left) l) is ∙ edited_more (made ++ left) c rest_after
          ∙ ap (λ (l : List Route). edited l rest_after) (ap (λ l. changed l c) whole ∙ at ∙ done);
      order = pairs_back IsRouteBefore p.left_out left_after (pairs_back IsRouteBefore p.moved (p.left_out ++ left_after) (subst (λ (l : List Route). AllPairs IsRouteBefore l) p.left_is e.order));
      changes = pairs_tail IsChangeBefore c rest_after changes;
      before = λ j f lt.
          let x = get_or rest_after j f in
          let later : IsPrefixBefore (prefix_of c) (prefix_of x) = head_before IsChangeBefore c rest_after changes x (Contains-get_or rest_after j f lt) in
          All-append (before_c x) made_after (put_of c)
          (subst (All (before_c x)) (sym p.made_is) (All-append (before_c x) made p.moved (All-tail (λ x. All (before_c x) made) c rest_after before j f lt)
          (All-weaker (before_c c) (before_c x) (λ r b. prefixes_told.trans r.prefix (prefix_of c) (prefix_of x) b later) p.moved p.before)))
          (members_all (before_c x) (put_of c) (λ r h. subst (λ (q : Prefix). IsPrefixBefore q (prefix_of x)) (sym (put_at c r h)) later));
    }

pub edit_end : (routes : List Route) (cs rest : List Change) (left made : List Route) → IsEdited routes cs rest left made → rest ≡ [] → made ++ left ≡ edited routes cs
edit_end routes cs rest left made e none = sym (e.so_far ∙ ap (λ l. edited (made ++ left) l) none ∙ edited_none (made ++ left))

-- what is left behind the first
pub first_there : (before after : List Route) → after ≡ drop 1 before → 0 < length before → (x : Route) × (before ≡ x ∷ after)
first_there [] after is some = absurd (omega arith)
first_there (x ∷ xs) after is some = (x, ap (λ l. x ∷ l) (sym is))
