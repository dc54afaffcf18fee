-- What a failure changes in the tables of all routers, one after the other.
use Rattle.std.proofs.Common.{◌≡◌, ◌∙◌, ◌+◌, ◌-◌, ◌*◌, ◌<◌, ◌≤◌, ◌^◌, ◌↔◌, ℕ, Bool, true, false, cond, not, List, [], ◌∷◌, ◌++◌, All, map, filter, take, length, get_or, ap, sym, refl, subst, inl, inr, arith, string_bytes}
use Rattle.std.specs.List.{AllPairs, AllWithin, AllZip, Any, Contains, HoldsAt, fold, sum_by}
use Rattle.std.specs.List.Sorted.{IsSorted}
use Rattle.std.specs.Prelude.{IsPermutation, IsTrue, MatchBool, count_by, max}
use Rattle.std.proofs.lemmas.List.{append-nil, length-map, map-append, map_push, take_more}
use Rattle.std.proofs.lemmas.List.Concat.{flat_map-append}
use Rattle.std.proofs.lemmas.List.Elements.{All-append, All-push, Contains-get_or, filter-append}
use Rattle.std.proofs.lemmas.List.Kept.{AllPairs-cons, AllPairs-filter}
use Rattle.std.proofs.lemmas.List.Folds.{fold_along}
use Rattle.std.proofs.lemmas.List.Sums.{count_by-le-length, fold-append, fold_push, length-filter, sum_by-append, sum_by-le, sum_by_push}
use Rattle.ospf_table.specs.Changes.{is_cut, is_dearer, is_gone, is_moved, totals_of}
use Rattle.ospf_base.specs.declared.ids.RouterId.{RouterId}
use Rattle.ospf_graph.proofs.ListLemmas.{member_cases, member_head, member_later}
use Rattle.ospf_graph.proofs.TableLemmas.{head_before, pairs_tail}
use Rattle.ospf_graph.specs.Advertisements.{Advertisement, IsListed}
use Rattle.ospf_graph.specs.Routes.{IsTable}
use Rattle.ospf_harm.specs.Carrier.{IsFailureBy, together}
use Rattle.ospf_whatif.specs.Failure.{without_all}
use Rattle.ospf_whatif.specs.Single.{IsFailureBefore}
use Rattle.ospf_harm.specs.declared.carrier.Breakdown.{Breakdown}
use Rattle.ospf_harm.specs.declared.carrier.Carrier.{Carrier}
use Rattle.ospf_whatif.specs.declared.effect.RouteChange.{RouteChange}
use Rattle.ospf_whatif.specs.declared.failure.AreaFailure.{AreaFailure}
use Rattle.ospf_whatif.specs.declared.failure.AreaFailure.TheVariants.{Attachment, End, Link, Links, Network, Router, Stub}
use Rattle.ospf_whatif.proofs.LessLemmas.{kept_of, of_kept}
use Rattle.ospf_harm.proofs.FoundLemmas.{all_seen, effect_by, same_failures}
use Rattle.ospf_harm.proofs.ReportLemmas.{other_from, other_to}
use Rattle.ospf_harm.specs.Harm.{harm_at, harm_plus, is_rerouted, loses_other, loses_own, no_harm}
use Rattle.ospf_harm.specs.declared.harm.Harm.{Harm}
use Rattle.ospf_failures.specs.Overall.{AreOveralls, FitTogether, HasRoomForOne, IsSumOfBoth, IsOverall, IsSight, IsSightFrom, IsSoFar, Sees, SeesMore, failing_router, harm_of, lines_kept, overall_cmp, roots_in, sight_lines, sights_kept, sums_and, sums_of}
use Rattle.ospf_failures.specs.Sights.{SightValue}
use Rattle.ospf_table.specs.Sums.{has_changes, one_if, sums_plus}
use Rattle.ospf_harm.specs.Reports.{is_of}
use Rattle.ospf_harm.specs.declared.cases.Before.{Before}
use Rattle.ospf_failures.specs.declared.overall.RouteDetail.{RouteDetail}
use Rattle.ospf_failures.specs.declared.overall.RouteDetail.TheVariants as detail
use Rattle.ospf_failures.specs.declared.overall.Overall.{Overall}
use Rattle.ospf_table.specs.declared.sums.Sums.{Sums}
use Rattle.ospf_harm.specs.Together.{AreSingle}

-- ---- the routers of an area, by its failures

abbrev is_before : RouterId → RouterId → Type 0
is_before r s = r.0 < s.0

-- a router is among those that fail where its failure is among the failures
root_to : (fs : List AreaFailure) (r : RouterId) → Contains (roots_in fs) r → Contains fs (Router r)
root_to [] r c = absurd (let low = c.1 in omega arith)
root_to (Link a b p ∷ fs) r c = member_later (Link a b p) fs (Router r) (root_to fs r c)
root_to (End a b p ∷ fs) r c = member_later (End a b p) fs (Router r) (root_to fs r c)
root_to (Links a b ∷ fs) r c = member_later (Links a b) fs (Router r) (root_to fs r c)
root_to (Attachment a n ∷ fs) r c = member_later (Attachment a n) fs (Router r) (root_to fs r c)
root_to (Network n ∷ fs) r c = member_later (Network n) fs (Router r) (root_to fs r c)
root_to (Stub q p ∷ fs) r c = member_later (Stub q p) fs (Router r) (root_to fs r c)
root_to (Router s ∷ fs) r c = elim (member_cases s (roots_in fs) r c) [
  | inl is ↦ subst (Contains (Router s ∷ fs)) (ap Router is) (member_head (Router s) fs)
  | inr rest ↦ member_later (Router s) fs (Router r) (root_to fs r rest)
]

root_from : (fs : List AreaFailure) (r : RouterId) → Contains fs (Router r) → Contains (roots_in fs) r
root_from [] r c = absurd (let low = c.1 in omega arith)
root_from (Link a b p ∷ fs) r c = elim (member_cases (Link a b p) fs (Router r) c) [ inl is ↦ absurd (cc is) | inr rest ↦ root_from fs r rest ]
root_from (End a b p ∷ fs) r c = elim (member_cases (End a b p) fs (Router r) c) [ inl is ↦ absurd (cc is) | inr rest ↦ root_from fs r rest ]
root_from (Links a b ∷ fs) r c = elim (member_cases (Links a b) fs (Router r) c) [ inl is ↦ absurd (cc is) | inr rest ↦ root_from fs r rest ]
root_from (Attachment a n ∷ fs) r c = elim (member_cases (Attachment a n) fs (Router r) c) [ inl is ↦ absurd (cc is) | inr rest ↦ root_from fs r rest ]
root_from (Network n ∷ fs) r c = elim (member_cases (Network n) fs (Router r) c) [ inl is ↦ absurd (cc is) | inr rest ↦ root_from fs r rest ]
root_from (Stub q p ∷ fs) r c = elim (member_cases (Stub q p) fs (Router r) c) [ inl is ↦ absurd (cc is) | inr rest ↦ root_from fs r rest ]
root_from (Router s ∷ fs) r c = elim (member_cases (Router s) fs (Router r) c) [
  | inl is ↦ let same : s ≡ r = cc is in subst (Contains (s ∷ roots_in fs)) same (member_head s (roots_in fs))
  | inr rest ↦ member_later s (roots_in fs) r (root_from fs r rest)
]

-- those behind a router that fails
first_of_all : (s : RouterId) (fs : List AreaFailure) → AllPairs IsFailureBefore (Router s ∷ fs) → All (is_before s) (roots_in fs)
first_of_all s fs order = λ k d lt.
    head_before IsFailureBefore (Router s) fs order (Router (get_or (roots_in fs) k d)) (root_to fs (get_or (roots_in fs) k d) (Contains-get_or (roots_in fs) k d lt))

roots_rise : (fs : List AreaFailure) → AllPairs IsFailureBefore fs → AllPairs is_before (roots_in fs)
roots_rise [] order = λ i j d lt le. absurd (omega arith)
roots_rise (Link a b p ∷ fs) order = roots_rise fs (pairs_tail IsFailureBefore (Link a b p) fs order)
roots_rise (End a b p ∷ fs) order = roots_rise fs (pairs_tail IsFailureBefore (End a b p) fs order)
roots_rise (Links a b ∷ fs) order = roots_rise fs (pairs_tail IsFailureBefore (Links a b) fs order)
roots_rise (Attachment a n ∷ fs) order = roots_rise fs (pairs_tail IsFailureBefore (Attachment a n) fs order)
roots_rise (Network n ∷ fs) order = roots_rise fs (pairs_tail IsFailureBefore (Network n) fs order)
roots_rise (Stub q p ∷ fs) order = roots_rise fs (pairs_tail IsFailureBefore (Stub q p) fs order)
roots_rise (Router s ∷ fs) order =
    AllPairs-cons is_before s (roots_in fs) (first_of_all s fs order) (roots_rise fs (pairs_tail IsFailureBefore (Router s) fs order))

-- ---- over all of them

abbrev other_than : AreaFailure → RouterId → Bool
other_than f r = not (is_of r f)

module _ (carrier : Carrier) (A : List Advertisement) (fs : List AreaFailure) (are : AreSingle A fs) (wanted : RouteDetail) (o : Overall)
    (so_far : IsSoFar A (without_all (together carrier fs o.failure) A) wanted (roots_in fs) o) where
  routers_are : map (λ s. s.0) so_far.sights ≡ filter (other_than o.failure) (roots_in fs)
  routers_are = so_far.routers

  whole_to : (r : RouterId) → Contains (map (λ s. s.0) so_far.sights) r → IsListed A r × (o.failure ≡ Router r → ⊥)
  whole_to r c =
      let k = kept_of (other_than o.failure) (roots_in fs) r (subst (λ (l : List RouterId). Contains l r) routers_are c) in
      ((are.all (Router r)).0 (root_to fs r k.0), other_to r o.failure k.1)

  whole_from : (r : RouterId) → IsListed A r × (o.failure ≡ Router r → ⊥) → Contains (map (λ s. s.0) so_far.sights) r
  whole_from r h =
      subst (λ (l : List RouterId). Contains l r) (sym routers_are)
      (of_kept (other_than o.failure) (roots_in fs) r (root_from fs r ((are.all (Router r)).1 h.0)) (other_from r o.failure h.1))

  sight_is : (s : SightValue) → IsSightFrom A (without_all (together carrier fs o.failure) A) s → IsSight carrier fs A o.failure s
  sight_is s from = record {
    table = from.table;
    is_table = from.is_table;
    effect = effect_by carrier fs A s.0 o.failure from.table s.1 from.effect;
  }

  pub overall_is : IsOverall carrier fs A wanted o
  overall_is = record {
    sights = so_far.sights;
    are_sights = record {
      whole = λ r. (whole_to r, whole_from r);
      rising = subst (AllPairs is_before) (sym routers_are) (AllPairs-filter is_before (other_than o.failure) (roots_in fs) (roots_rise fs are.in_order));
      seen = λ k d lt. sight_is (get_or so_far.sights k d) (so_far.seen k d lt);
    };
    sums_are = so_far.sums_are;
    harm_is = so_far.harm_is;
    lines_are = so_far.lines_are;
    sights_are = so_far.sights_are;
  }

-- ---- one router more

count_push : {X : Type 0} (p : X → Bool) (xs : List X) (x : X) → count_by p (xs ++ x ∷ []) ≡ count_by p xs + one_if (p x)
count_push p xs x = sum_by_push (λ y. one_if (p y)) xs x

sums_more : (sights : List SightValue) (s : SightValue) → sums_of (sights ++ s ∷ []) ≡ sums_plus (sums_of sights) s.1
sums_more sights s = λ i. record {
  cut = sum_by_push (λ (t : SightValue). (totals_of t.1).cut) sights s i;
  gone = sum_by_push (λ (t : SightValue). (totals_of t.1).gone) sights s i;
  cost = sum_by_push (λ (t : SightValue). (totals_of t.1).cost) sights s i;
  hops = sum_by_push (λ (t : SightValue). (totals_of t.1).hops) sights s i;
  routers = count_push (λ (t : SightValue). has_changes t.1) sights s i;
}

harm_more : (f : AreaFailure) (sights : List SightValue) (s : SightValue) → harm_of f (sights ++ s ∷ []) ≡ harm_plus (harm_of f sights) (harm_at f s.1)
harm_more f sights s = fold_push (λ (h : Harm) (t : SightValue). harm_plus h (harm_at f t.1)) no_harm sights s

sums_both : (some more : List SightValue) → sums_of (some ++ more) ≡ sums_and (sums_of some) (sums_of more)
sums_both some more = λ i. record {
  cut = sum_by-append (λ (t : SightValue). (totals_of t.1).cut) some more i;
  gone = sum_by-append (λ (t : SightValue). (totals_of t.1).gone) some more i;
  cost = sum_by-append (λ (t : SightValue). (totals_of t.1).cost) some more i;
  hops = sum_by-append (λ (t : SightValue). (totals_of t.1).hops) some more i;
  routers = sum_by-append (λ (t : SightValue). one_if (has_changes t.1)) some more i;
}

harm_assoc : (a b c : Harm) → harm_plus (harm_plus a b) c ≡ harm_plus a (harm_plus b c)
harm_assoc a b c = λ i. record {
  lost = (let e : a.lost + b.lost + c.lost ≡ a.lost + (b.lost + c.lost) = omega arith in e) i;
  rerouted = (let e : a.rerouted + b.rerouted + c.rerouted ≡ a.rerouted + (b.rerouted + c.rerouted) = omega arith in e) i;
  rise = (let e : max (max a.rise b.rise) c.rise ≡ max a.rise (max b.rise c.rise) = omega arith in e) i;
  own = (let e : a.own + b.own + c.own ≡ a.own + (b.own + c.own) = omega arith in e) i;
}

harm_and_none : (h : Harm) → harm_plus h no_harm ≡ h
harm_and_none h = λ i. record {
  lost = (let e : h.lost + 0 ≡ h.lost = omega arith in e) i;
  rerouted = (let e : h.rerouted + 0 ≡ h.rerouted = omega arith in e) i;
  rise = (let e : max h.rise 0 ≡ h.rise = omega arith in e) i;
  own = (let e : h.own + 0 ≡ h.own = omega arith in e) i;
}

-- harm added to what there is already
harm_from : (f : AreaFailure) (h : Harm) (sights : List SightValue) → fold (λ k s. harm_plus k (harm_at f s.1)) h sights ≡ harm_plus h (harm_of f sights)
harm_from f h [] = sym (harm_and_none h)
harm_from f h (s ∷ sights) =
    harm_from f (harm_plus h (harm_at f s.1)) sights ∙ harm_assoc h (harm_at f s.1) (harm_of f sights)
    ∙ ap (harm_plus h) (sym (harm_from f (harm_plus no_harm (harm_at f s.1)) sights ∙ ap (λ (k : Harm). harm_plus k (harm_of f sights)) (harm_none_and (harm_at f s.1))))
  where
    harm_none_and : (k : Harm) → harm_plus no_harm k ≡ k
    harm_none_and k = λ i. record {
      lost = (let e : 0 + k.lost ≡ k.lost = omega arith in e) i;
      rerouted = (let e : 0 + k.rerouted ≡ k.rerouted = omega arith in e) i;
      rise = (let e : max 0 k.rise ≡ k.rise = omega arith in e) i;
      own = (let e : 0 + k.own ≡ k.own = omega arith in e) i;
    }

harm_both : (f : AreaFailure) (some more : List SightValue) → harm_of f (some ++ more) ≡ harm_plus (harm_of f some) (harm_of f more)
harm_both f some more = fold-append (λ (h : Harm) (t : SightValue). harm_plus h (harm_at f t.1)) no_harm some more ∙ harm_from f (harm_of f some) more

-- the lines and the routes of more routers
lines_both : (d : RouteDetail) (f : AreaFailure) (some more : List SightValue) → lines_kept d f (some ++ more) ≡ lines_kept d f some ++ lines_kept d f more
lines_both detail.Sums f some more = refl
lines_both detail.Lines f some more = flat_map-append (sight_lines f) some more
lines_both detail.Routes f some more = refl

sights_both : (d : RouteDetail) (some more : List SightValue) → sights_kept d (some ++ more) ≡ sights_kept d some ++ sights_kept d more
sights_both detail.Sums some more = refl
sights_both detail.Lines some more = refl
sights_both detail.Routes some more = refl

module _ (A left : List Advertisement) (wanted : RouteDetail) (roots : List RouterId) (b : Before) (table : IsTable A b.root b.table) (old new : Overall)
    (so_far : IsSoFar A left wanted roots old) where
  kept_more : (v : Bool) → is_of b.root old.failure ≡ v
      → filter (other_than old.failure) (roots ++ b.root ∷ []) ≡ filter (other_than old.failure) roots ++ cond (not v) (b.root ∷ []) []
  kept_more v e =
      filter-append (other_than old.failure) roots (b.root ∷ []) ∙ ap (λ (t : Bool). filter (other_than old.failure) roots ++ cond (not t) (b.root ∷ []) []) e

  seen_none : is_of b.root old.failure ≡ true → IsSoFar A left wanted (roots ++ b.root ∷ []) old
  seen_none e = record {
    sights = so_far.sights;
    routers = so_far.routers ∙ sym (kept_more true e ∙ append-nil (filter (other_than old.failure) roots));
    seen = so_far.seen;
    sums_are = so_far.sums_are;
    harm_is = so_far.harm_is;
    lines_are = so_far.lines_are;
    sights_are = so_far.sights_are;
  }

  seen_more : SeesMore left b wanted old new → IsSoFar A left wanted (roots ++ b.root ∷ []) new
  seen_more more =
      let s : SightValue = (b.root, more.changes) in
      record {
        sights = so_far.sights ++ s ∷ [];
        routers =
            map_push (λ t. t.0) so_far.sights s ∙ ap (λ (l : List RouterId). l ++ b.root ∷ []) so_far.routers ∙ sym (kept_more false more.other)
            ∙ ap (λ (f : AreaFailure). filter (other_than f) (roots ++ b.root ∷ [])) (sym more.same);
        seen = All-push (IsSightFrom A left) so_far.sights s so_far.seen (record { table = b.table; is_table = table; effect = more.effect; few = more.few });
        sums_are = more.sums_are ∙ ap (λ (t : Sums). sums_plus t more.changes) so_far.sums_are ∙ sym (sums_more so_far.sights s);
        harm_is =
            more.harm_is ∙ ap (λ (h : Harm). harm_plus h (harm_at old.failure more.changes)) so_far.harm_is ∙ sym (harm_more old.failure so_far.sights s)
            ∙ ap (λ (f : AreaFailure). harm_of f (so_far.sights ++ s ∷ [])) (sym more.same);
        lines_are =
            more.lines_are ∙ ap (λ (l : List ℕ). l ++ lines_kept wanted old.failure (s ∷ [])) so_far.lines_are ∙ sym (lines_both wanted old.failure so_far.sights (s ∷ []))
            ∙ ap (λ (f : AreaFailure). lines_kept wanted f (so_far.sights ++ s ∷ [])) (sym more.same);
        sights_are = more.sights_are ∙ ap (λ (l : List SightValue). l ++ sights_kept wanted (s ∷ [])) so_far.sights_are ∙ sym (sights_both wanted so_far.sights (s ∷ []));
      }

  pub sees_on : Sees left b wanted old new → IsSoFar A left wanted (roots ++ b.root ∷ []) new
  sees_on (inl none) = subst (IsSoFar A left wanted (roots ++ b.root ∷ [])) (sym none.1) (seen_none none.0)
  sees_on (inr more) = seen_more more

  pub still_it : Sees left b wanted old new → new.failure ≡ old.failure
  still_it (inl none) = ap (λ (o : Overall). o.failure) none.1
  still_it (inr more) = more.same

-- ---- two groups of routers

module _ (A left : List Advertisement) (wanted : RouteDetail) (some more : List RouterId) (a b both : Overall) (of_a : IsSoFar A left wanted some a) (of_b : IsSoFar A left wanted more b)
    (same : b.failure ≡ a.failure) (joined : IsSumOfBoth a b both) where
  abbrev all_sights : List SightValue
  all_sights = of_a.sights ++ of_b.sights

  routers_both : map (λ s. s.0) all_sights ≡ filter (other_than both.failure) (some ++ more)
  routers_both =
      map-append (λ s. s.0) of_a.sights of_b.sights ∙ (λ i. of_a.routers i ++ (of_b.routers ∙ ap (λ (f : AreaFailure). filter (other_than f) more) same) i)
      ∙ sym (filter-append (other_than a.failure) some more) ∙ ap (λ (f : AreaFailure). filter (other_than f) (some ++ more)) (sym joined.same)

  pub so_far_both : IsSoFar A left wanted (some ++ more) both
  so_far_both = record {
    sights = all_sights;
    routers = routers_both;
    seen = All-append (IsSightFrom A left) of_a.sights of_b.sights of_a.seen of_b.seen;
    sums_are = joined.sums_are ∙ (λ i. sums_and (of_a.sums_are i) (of_b.sums_are i)) ∙ sym (sums_both of_a.sights of_b.sights);
    harm_is =
        joined.harm_is ∙ (λ i. harm_plus (of_a.harm_is i) ((of_b.harm_is ∙ ap (λ (f : AreaFailure). harm_of f of_b.sights) same) i))
        ∙ sym (harm_both a.failure of_a.sights of_b.sights) ∙ ap (λ (f : AreaFailure). harm_of f all_sights) (sym joined.same);
    lines_are =
        joined.lines_are ∙ (λ i. of_a.lines_are i ++ (of_b.lines_are ∙ ap (λ (f : AreaFailure). lines_kept wanted f of_b.sights) same) i)
        ∙ sym (lines_both wanted a.failure of_a.sights of_b.sights) ∙ ap (λ (f : AreaFailure). lines_kept wanted f all_sights) (sym joined.same);
    sights_are = joined.sights_are ∙ (λ i. of_a.sights_are i ++ of_b.sights_are i) ∙ sym (sights_both wanted of_a.sights of_b.sights);
  }

-- ---- room for more

-- at so many routers no more than this is counted
pub record IsBounded (n : ℕ) (o : Overall) : Type 0 where
  pub cut : o.sums.cut ≤ n * (2 ^ 64 - 1)
  pub gone : o.sums.gone ≤ n * (2 ^ 64 - 1)
  pub cost : o.sums.cost ≤ n * (2 ^ 64 - 1)
  pub hops : o.sums.hops ≤ n * (2 ^ 64 - 1)
  pub routers : o.sums.routers ≤ n
  pub lost : o.harm.lost ≤ n * (2 ^ 64 - 1)
  pub rerouted : o.harm.rerouted ≤ n * (2 ^ 64 - 1)
  pub own : o.harm.own ≤ n * (2 ^ 64 - 1)

module _ (A left : List Advertisement) (wanted : RouteDetail) (roots : List RouterId) (o : Overall) (so_far : IsSoFar A left wanted roots o) where
  sights_few : length so_far.sights ≤ length roots
  sights_few =
      let k : length so_far.sights ≡ length (filter (other_than o.failure) roots) = sym (length-map so_far.sights (λ s. s.0)) ∙ ap length so_far.routers in
      let f : length (filter (other_than o.failure) roots) ≡ count_by (other_than o.failure) roots = length-filter (other_than o.failure) roots in
      let c : count_by (other_than o.failure) roots ≤ length roots = count_by-le-length (other_than o.failure) roots in
      omega (arith, k, f, c)

  sum_few : (f : SightValue → ℕ) → ((s : SightValue) → f s ≤ length s.1) → sum_by f so_far.sights ≤ length roots * (2 ^ 64 - 1)
  sum_few f le =
      let each : All (λ s. f s ≤ 2 ^ 64 - 1) so_far.sights =
      λ k d lt. let few = (so_far.seen k d lt).few in let l = le (get_or so_far.sights k d) in omega (arith, few, l) in
      let all : sum_by f so_far.sights ≤ length so_far.sights * (2 ^ 64 - 1) = sum_by-le f (2 ^ 64 - 1) so_far.sights each in
      let few = sights_few in
      omega (arith, all, few)

  harm_lost : (f : AreaFailure) (sights : List SightValue) → (harm_of f sights).lost ≡ sum_by (λ s. (harm_at f s.1).lost) sights
  harm_lost f sights = fold_along (λ h s. harm_plus h (harm_at f s.1)) (λ n s. n + (harm_at f s.1).lost) (λ h n. h.lost ≡ n) (λ h n s e. ap (λ (m : ℕ). m + (harm_at f s.1).lost) e) no_harm 0 sights refl

  harm_rerouted : (f : AreaFailure) (sights : List SightValue) → (harm_of f sights).rerouted ≡ sum_by (λ s. (harm_at f s.1).rerouted) sights
  harm_rerouted f sights = fold_along (λ h s. harm_plus h (harm_at f s.1)) (λ n s. n + (harm_at f s.1).rerouted) (λ h n. h.rerouted ≡ n) (λ h n s e. ap (λ (m : ℕ). m + (harm_at f s.1).rerouted) e) no_harm 0 sights refl

  harm_own : (f : AreaFailure) (sights : List SightValue) → (harm_of f sights).own ≡ sum_by (λ s. (harm_at f s.1).own) sights
  harm_own f sights = fold_along (λ h s. harm_plus h (harm_at f s.1)) (λ n s. n + (harm_at f s.1).own) (λ h n. h.own ≡ n) (λ h n s e. ap (λ (m : ℕ). m + (harm_at f s.1).own) e) no_harm 0 sights refl

  pub bounded : IsBounded (length roots) o
  bounded = record {
    cut = subst (λ (t : Sums). t.cut ≤ length roots * (2 ^ 64 - 1)) (sym so_far.sums_are) (sum_few (λ s. (totals_of s.1).cut) (λ s. count_by-le-length (λ (c : RouteChange). is_cut c.loss) s.1));
    gone = subst (λ (t : Sums). t.gone ≤ length roots * (2 ^ 64 - 1)) (sym so_far.sums_are) (sum_few (λ s. (totals_of s.1).gone) (λ s. count_by-le-length (λ (c : RouteChange). is_gone c.loss) s.1));
    cost = subst (λ (t : Sums). t.cost ≤ length roots * (2 ^ 64 - 1)) (sym so_far.sums_are) (sum_few (λ s. (totals_of s.1).cost) (λ s. count_by-le-length (λ (c : RouteChange). is_dearer c.loss) s.1));
    hops = subst (λ (t : Sums). t.hops ≤ length roots * (2 ^ 64 - 1)) (sym so_far.sums_are) (sum_few (λ s. (totals_of s.1).hops) (λ s. count_by-le-length (λ (c : RouteChange). is_moved c.loss) s.1));
    routers =
        subst (λ (t : Sums). t.routers ≤ length roots) (sym so_far.sums_are)
        (let c : count_by (λ (s : SightValue). has_changes s.1) so_far.sights ≤ length so_far.sights = count_by-le-length (λ (s : SightValue). has_changes s.1) so_far.sights in
        let few = sights_few in omega (arith, c, few));
    lost =
        subst (λ (h : Harm). h.lost ≤ length roots * (2 ^ 64 - 1)) (sym so_far.harm_is)
        (subst (λ (n : ℕ). n ≤ length roots * (2 ^ 64 - 1)) (sym (harm_lost o.failure so_far.sights)) (sum_few (λ s. (harm_at o.failure s.1).lost) (λ s. count_by-le-length (loses_other o.failure) s.1)));
    rerouted =
        subst (λ (h : Harm). h.rerouted ≤ length roots * (2 ^ 64 - 1)) (sym so_far.harm_is)
        (subst (λ (n : ℕ). n ≤ length roots * (2 ^ 64 - 1)) (sym (harm_rerouted o.failure so_far.sights)) (sum_few (λ s. (harm_at o.failure s.1).rerouted) (λ s. count_by-le-length is_rerouted s.1)));
    own =
        subst (λ (h : Harm). h.own ≤ length roots * (2 ^ 64 - 1)) (sym so_far.harm_is)
        (subst (λ (n : ℕ). n ≤ length roots * (2 ^ 64 - 1)) (sym (harm_own o.failure so_far.sights)) (sum_few (λ s. (harm_at o.failure s.1).own) (λ s. count_by-le-length (loses_own o.failure) s.1)));
  }

pub room_for_one : (n : ℕ) (o : Overall) → n + 1 < 2 ^ 64 → IsBounded n o → HasRoomForOne o
room_for_one n o small b = record {
  sums = record {
    cut = (let k = b.cut in omega (arith, k, small));
    gone = (let k = b.gone in omega (arith, k, small));
    cost = (let k = b.cost in omega (arith, k, small));
    hops = (let k = b.hops in omega (arith, k, small));
    routers = (let k = b.routers in omega (arith, k, small));
  };
  harm = record {
    lost = (let k = b.lost in omega (arith, k, small));
    rerouted = (let k = b.rerouted in omega (arith, k, small));
    own = (let k = b.own in omega (arith, k, small));
  };
}

pub fit_together : (n m : ℕ) (a b : Overall) → n + m < 2 ^ 64 → IsBounded n a → IsBounded m b → FitTogether a b
fit_together n m a b small of_a of_b = record {
  cut = (let k = of_a.cut in let l = of_b.cut in omega (arith, k, l, small));
  gone = (let k = of_a.gone in let l = of_b.gone in omega (arith, k, l, small));
  cost = (let k = of_a.cost in let l = of_b.cost in omega (arith, k, l, small));
  hops = (let k = of_a.hops in let l = of_b.hops in omega (arith, k, l, small));
  routers = (let k = of_a.routers in let l = of_b.routers in omega (arith, k, l, small));
  lost = (let k = of_a.lost in let l = of_b.lost in omega (arith, k, l, small));
  rerouted = (let k = of_a.rerouted in let l = of_b.rerouted in omega (arith, k, l, small));
  own = (let k = of_a.own in let l = of_b.own in omega (arith, k, l, small));
}

-- ---- all failures

-- what a failure and all that fails with it change in the tables of these routers
pub record IsOverallOf (adverts : List Advertisement) (wanted : RouteDetail) (roots : List RouterId) (b : Breakdown) (o : Overall) : Type 0 where
  pub failure_is : o.failure ≡ b.failure
  pub so_far : IsSoFar adverts (without_all b.parts.items adverts) wanted roots o

pub overalls_are : (carrier : Carrier) (A : List Advertisement) (wanted : RouteDetail) (single failures : List AreaFailure) (bs : List Breakdown)
    (overalls printed : List Overall) → AreSingle A single → ((f : AreaFailure) → Contains failures f ↔ IsFailureBy carrier A f) → AllPairs IsFailureBefore failures
    → map (λ b. b.failure) bs ≡ failures → All (λ b. b.parts.items ≡ together carrier single b.failure) bs
    → AllZip (IsOverallOf A wanted (roots_in single)) bs overalls
    → IsPermutation overalls printed → IsSorted overall_cmp printed → AreOveralls carrier A wanted printed
overalls_are carrier A wanted single failures bs overalls printed are all rising names parts found permuted in_order =
    let R = IsOverallOf A wanted (roots_in single) in
    let failure_of = λ (o : Overall). o.failure in
    let named : map failure_of overalls ≡ failures = same_failures failure_of R (λ b o is. is.failure_is) bs overalls found ∙ names in
    let seen = all_seen failure_of R (λ b o is. is.failure_is) (λ gone o. IsSoFar A (without_all gone A) wanted (roots_in single) o) (together carrier single)
    (λ b o is. is.so_far) bs overalls parts found in
    record {
      single = single;
      are_single = are;
      overalls = overalls;
      whole = λ f. subst (λ (l : List AreaFailure). Contains l f ↔ IsFailureBy carrier A f) (sym named) (all f);
      rising = subst (AllPairs IsFailureBefore) (sym named) rising;
      seen = λ k d lt. overall_is carrier A single are wanted (get_or overalls k d) (seen k d lt);
      permuted = permuted;
      in_order = in_order;
    }

no_lines : (f : AreaFailure) (d : RouteDetail) → [] ≡ lines_kept d f []
no_lines f detail.Sums = refl
no_lines f detail.Lines = refl
no_lines f detail.Routes = refl

no_sights : (d : RouteDetail) → [] ≡ sights_kept d []
no_sights detail.Sums = refl
no_sights detail.Lines = refl
no_sights detail.Routes = refl

-- of no router yet
pub none_yet : (A left : List Advertisement) (wanted : RouteDetail) (o : Overall) → o.sums ≡ sums_of [] → o.harm ≡ no_harm → string_bytes o.lines ≡ []
    → o.sights.items ≡ [] → IsSoFar A left wanted [] o
none_yet A left wanted o sums harm lines sights = record {
  sights = [];
  routers = refl;
  seen = λ k d lt. absurd (omega arith);
  sums_are = sums;
  harm_is = harm;
  lines_are = lines ∙ no_lines o.failure wanted;
  sights_are = sights ∙ no_sights wanted;
}

-- ---- in order

-- the routers of one failure more
pub roots_on : (fs : List AreaFailure) (i : ℕ) (x : AreaFailure) → i < length fs → x ≡ get_or fs i x → roots_in (take (i + 1) fs) ≡ roots_in (take i fs) ++ failing_router x
roots_on fs i x lt is =
    ap roots_in (take_more fs i x lt) ∙ flat_map-append failing_router (take i fs) (get_or fs i x ∷ [])
    ∙ ap (λ (l : List RouterId). roots_in (take i fs) ++ l) (append-nil (failing_router (get_or fs i x))) ∙ ap (λ (f : AreaFailure). roots_in (take i fs) ++ failing_router f) (sym is)

-- whether some failure cuts, by whether one was found that does
pub cuts_by : {X : Type 0} (f : X → ℕ) (r : Bool) (xs : List X) → MatchBool r ((k : ℕ) × (k < length xs) × HoldsAt (λ x. 0 < f x) xs k) (AllWithin (λ x. f x ≤ 0) xs 0 (length xs))
    → IsTrue r ↔ Any (λ x. 0 < f x) xs
cuts_by f true [] h = absurd (let low = h.1 in omega arith)
cuts_by f true (x ∷ xs) h = let here = Contains-get_or (x ∷ xs) h.0 x h.1 in ((λ yes. (here.0, get_or (x ∷ xs) h.0 x, here.1, here.2, h.2 x)), (λ some. refl))
cuts_by f false xs h = ((λ no. cc), (λ some. absurd (let none = subst (λ y. f y ≤ 0) some.3 (h some.0 some.1 (omega arith) some.2) in omega (arith, none, some.4))))
