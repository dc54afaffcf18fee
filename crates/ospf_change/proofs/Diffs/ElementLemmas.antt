-- The elements of one list that are not in another.
use Rattle.std.proofs.Common.{◌≡◌, ◌∙◌, ◌+◌, ◌<◌, ◌≤◌, ◌↔◌, ◌⊎◌, ◌++◌, ℕ, Bool, true, false, List, [], ◌∷◌, IsTrue, length, get_or, take, ap, sym, refl, subst, inl, inr, arith, Ordering, Less, Equal, Greater, Result, Ok, Err}
use Rattle.std.specs.Ordering.{is_eq, is_lt, ordering_reverse}
use Rattle.std.specs.Result.{is_ok}
use Rattle.std.specs.List.{AllByRecursion, AllPairs, Contains}
use Rattle.std.specs.List.Sorted.{IsBinarySearchResult, IsSearchInRange, IsSortedBy, IsStrictlySortedBy}
use Rattle.std.proofs.lemmas.List.{get_or-take, get_or_default, length-take-le, take_more}
use Rattle.std.proofs.lemmas.List.Elements.{Contains-append_left, Contains-get_or, Contains-push, Contains-push_cases}
use Rattle.std.proofs.lemmas.List.Quantifiers.{all_pairs_push}
use Rattle.std.proofs.lemmas.List.Sorted.{searchable_from_sorted}
use Rattle.ospf_graph.specs.Advertisements.{Advertisement}
use Rattle.ospf_whatif.specs.Single.{AreFailures, IsFailureBefore}
use Rattle.ospf_whatif.specs.declared.failure.AreaFailure.{AreaFailure}
use Rattle.ospf_whatif.specs.declared.failure.AreaFailure.TheVariants.{Attachment, End, Link, Links, Network, Router, Stub}
use Rattle.ospf_whatif.specs.contracts.failure.AreaFailureOrd.TheImpl.{ghosts}
use Rattle.ospf_whatif.specs.contracts.failure.AreaFailureOrd.TheImpl.Laws.{matches_eq-law, total-law}
use Rattle.ospf_whatif.proofs.FailureOrder.{failure_same, failures_rise}
use Rattle.ospf_change.specs.Diff.Elements.{AreElementsOnlyIn, AreElementsMissing}

-- ---- the order of elements

-- no two stand before each other
not_both : (f g : AreaFailure) → IsFailureBefore f g → IsFailureBefore g f → ⊥
not_both (Link a b p) (Link c d q) h k = grind arith
not_both (End a b p) (End c d q) h k = grind arith
not_both (Links a b) (Links c d) h k = grind arith
not_both (Attachment r n) (Attachment s m) h k = grind arith
not_both (Network n) (Network m) h k = omega arith
not_both (Router r) (Router s) h k = omega arith
not_both (Stub r p) (Stub s q) h k = grind arith
not_both f g h k = omega arith

-- what is told to be less stands before
less_before : (f g : AreaFailure) → ghosts.cmp f g ≡ Less → IsFailureBefore f g
unfolding IsStrictlySortedBy
less_before f g less =
    let sorted : IsStrictlySortedBy ghosts.cmp (f ∷ g ∷ []) = ((less, tt), (tt, tt)) in
    failures_rise (f ∷ g ∷ []) sorted 0 1 f (omega arith) (omega arith)

not_less : (f g : AreaFailure) (o : Ordering) → ghosts.cmp g f ≡ o → IsFailureBefore f g → is_lt o ≡ false
not_less f g Less is before = absurd (not_both f g before (less_before g f is))
not_less f g Equal is before = refl
not_less f g Greater is before = refl

sorted_by : (xs : List AreaFailure) → AllPairs IsFailureBefore xs → IsSortedBy (λ a b. is_lt (ghosts.cmp a b)) xs
sorted_by xs order = λ k d low lt. not_less (get_or xs k d) (get_or xs (k + 1) d) _ refl (order k (k + 1) d (omega arith) lt)

-- ---- a search

equal_itself : (o : Ordering) → o ≡ ordering_reverse o → o ≡ Equal
equal_itself Less e = cc
equal_itself Equal e = refl
equal_itself Greater e = cc

itself : (f : AreaFailure) → ghosts.cmp f f ≡ Equal
itself f = equal_itself (ghosts.cmp f f) (total-law.antisymm f f)

told_same : (f g : AreaFailure) → ghosts.cmp f g ≡ Equal → f ≡ g
told_same f g is = failure_same f g (matches_eq-law f g ∙ ap is_eq is)

less_or_more : (i j : ℕ) → (i < j) ⊎ (j ≤ i)
less_or_more i j = grind arith

-- a search finds what is there, and nothing else
pub searched_for : (xs : List AreaFailure) (x : AreaFailure) (r : Result ℕ ℕ) → AllPairs IsFailureBefore xs → IsSearchInRange r (length xs)
    → IsBinarySearchResult (λ y. ghosts.cmp y x) xs r → IsTrue (is_ok r) ↔ Contains xs x
searched_for xs x (Ok i) order within at = ((λ yes. (i, within, told_same (get_or xs i x) x (at x))), (λ there. refl))
searched_for xs x (Err i) order within parted =
    let parts = parted (searchable_from_sorted total-law (λ y. y) xs x (sorted_by xs order)) in
    let none : Contains xs x → ⊥ = λ there.
    let here : ghosts.cmp (get_or xs there.0 x) x ≡ Equal = ap (λ y. ghosts.cmp y x) there.2 ∙ itself x in
    elim (less_or_more there.0 i) [
      | inl less ↦ (let no : ghosts.cmp (get_or xs there.0 x) x ≡ Less = parts.0 there.0 x (omega arith) less in cc)
      | inr more ↦ (let no : ghosts.cmp (get_or xs there.0 x) x ≡ Greater = parts.1 there.0 x more there.1 in cc)
    ] in
    ((λ no. cc), (λ there. absurd (none there)))

-- ---- those that are missing

pub none_missing : (elements others missing : List AreaFailure) → missing ≡ [] → AreElementsMissing (take 0 elements) others missing
none_missing elements others missing is = subst (AreElementsMissing (take 0 elements) others) (sym is) (record {
  in_order = λ i j d lt le. absurd (omega arith);
  whole = λ x. ((λ c. absurd (let low = c.1 in omega arith)), (λ h. absurd (let low = h.0.1 in omega arith)));
})

module _ (elements others : List AreaFailure) (order : AllPairs IsFailureBefore elements) (i : ℕ) (x : AreaFailure) (lt : i < length elements) (is : x ≡ get_or elements i x) where
  taken : take (i + 1) elements ≡ take i elements ++ x ∷ []
  taken = take_more elements i x lt ∙ ap (λ (y : AreaFailure). take i elements ++ y ∷ []) (sym is)

  before_it : (y : AreaFailure) → Contains (take i elements) y → IsFailureBefore y x
  before_it y c =
      let k = c.0 in
      let long = length-take-le i elements (omega arith) in
      let less : k < i = (let low = c.1 in omega arith) in
      let there : get_or elements k y ≡ y = sym (get_or-take i elements k y less) ∙ c.2 in
      let here : get_or elements i y ≡ x = get_or_default elements i y x lt ∙ sym is in
      subst (λ (z : AreaFailure). IsFailureBefore z x) there
      (subst (λ (z : AreaFailure). IsFailureBefore (get_or elements k y) z) here (order k i y less lt))

  pub missing_more : (missing new : List AreaFailure) → new ≡ missing ++ x ∷ [] → (Contains others x → ⊥) → AreElementsMissing (take i elements) others missing
      → AreElementsMissing (take (i + 1) elements) others new
  missing_more missing new new_is none so_far =
      subst (AreElementsMissing (take (i + 1) elements) others) (sym new_is) (subst (λ (l : List AreaFailure). AreElementsMissing l others (missing ++ x ∷ [])) (sym taken) (record {
        in_order = all_pairs_push IsFailureBefore missing x so_far.in_order
            (λ k d less. before_it (get_or missing k d) ((so_far.whole (get_or missing k d)).0 (Contains-get_or missing k d less)).0);
        whole = λ y. (
          (λ c. elim (Contains-push_cases missing x y c) [
            | inl earlier ↦ (let h = (so_far.whole y).0 earlier in (Contains-append_left (take i elements) (x ∷ []) y h.0, h.1))
            | inr now ↦ (subst (Contains (take i elements ++ x ∷ [])) now (Contains-push (take i elements) x), subst (λ (z : AreaFailure). Contains others z → ⊥) now none)
          ]),
          (λ h. elim (Contains-push_cases (take i elements) x y h.0) [
            | inl earlier ↦ Contains-append_left missing (x ∷ []) y ((so_far.whole y).1 (earlier, h.1))
            | inr now ↦ subst (Contains (missing ++ x ∷ [])) now (Contains-push missing x)
          ]),
        );
      }))

  pub missing_same : (missing : List AreaFailure) → Contains others x → AreElementsMissing (take i elements) others missing → AreElementsMissing (take (i + 1) elements) others missing
  missing_same missing there so_far = subst (λ (l : List AreaFailure). AreElementsMissing l others missing) (sym taken) (record {
    in_order = so_far.in_order;
    whole = λ y. (
      (λ c. let h = (so_far.whole y).0 c in (Contains-append_left (take i elements) (x ∷ []) y h.0, h.1)),
      (λ h. elim (Contains-push_cases (take i elements) x y h.0) [
        | inl earlier ↦ (so_far.whole y).1 (earlier, h.1)
        | inr now ↦ absurd (h.1 (subst (Contains others) now there))
      ]),
    );
  })

-- what the elements of two areas are
pub only_in : (area other : List Advertisement) (elements others found : List AreaFailure) → AreFailures area elements → AreFailures other others
    → AreElementsMissing elements others found → AreElementsOnlyIn area other found
only_in area other elements others found all all_others missing = record {
  in_order = missing.in_order;
  whole = λ x. (
    (λ c. let h = (missing.whole x).0 c in ((all x).0 h.0, (λ there. h.1 ((all_others x).1 there)))),
    (λ h. (missing.whole x).1 ((all x).1 h.0, (λ there. h.1 ((all_others x).0 there)))),
  );
}
