-- Router-LSAs of too many links.
use Rattle.std.proofs.Common.{◌≡◌, ◌∙◌, ◌+◌, ◌<◌, ◌≤◌, ℕ, suc, List, ◌∷◌, ◌++◌, map, take, drop, length, get_or, ap, sym, subst, inl, inr, [], arith, length-append, take-append-drop}
use Rattle.std.proofs.lemmas.List.{take_all}
use Rattle.std.proofs.Math.Seq.{drop-cons}
use Rattle.std.specs.List.{Contains}
use Rattle.ospf_base.specs.declared.ids.RouterId.{RouterId}
use Rattle.ospf_lsa.specs.Lsa.{key_of}
use Rattle.ospf_lsa.specs.declared.link.Link.{Link}
use Rattle.ospf_graph.specs.Advertisements.{Advertisement}
use Rattle.ospf_graph.proofs.ListLemmas.{member_of_map, member_to_map, more_members}
use Rattle.ospf_graph.specs.EdgeLists.Listed.{advertisement_of, advertisements_of}
use Rattle.ospf_whatif.specs.Failure.{HasLarge, IsLarge}
use Rattle.ospf_change.specs.Edit.Large.{IsFirstTooLarge}

module _ (items : List (List ℕ)) (i : ℕ) (x : List ℕ) (within : i < length items) (is : x ≡ get_or items i x) (none : HasLarge (map advertisement_of (take i items)) → ⊥) where
  -- one more that is not
  pub none_more : (IsLarge (advertisement_of x) → ⊥) → HasLarge (map advertisement_of (take (i + 1) items)) → ⊥
  none_more small h =
      let m = member_of_map advertisement_of (take (i + 1) items) h.0 h.1 in
      elim ((more_members items i x within m.0).0 m.1) [
        | inl old ↦ none (h.0, subst (λ (a : Advertisement). Contains (map advertisement_of (take i items)) a) m.2 (member_to_map advertisement_of (take i items) m.0 old), h.2)
        | inr here ↦ small (subst IsLarge (sym (ap advertisement_of (is ∙ here) ∙ m.2)) h.2)
      ]

  -- the first that is
  pub first_is : (listing : List (List ℕ)) (router : RouterId) → items ≡ listing → IsLarge (advertisement_of x) → router ≡ (key_of x).router → IsFirstTooLarge listing router
  unfolding advertisements_of
  first_is listing router same large named = record {
    before = take i items;
    lsa = x;
    after = drop (suc i) items;
    listing_is =
        sym same
        ∙ sym (ap (λ (y : List ℕ). take i items ++ y ∷ drop (suc i) items) is ∙ ap (λ (rest : List (List ℕ)). take i items ++ rest) (sym (drop-cons items i x within)) ∙ take-append-drop i items);
    none_before = none;
    large = large;
    router_is = named;
  }

pub none_of_all : (items listing : List (List ℕ)) (i : ℕ) → length items ≤ i → items ≡ listing → (HasLarge (map advertisement_of (take i items)) → ⊥)
    → HasLarge (advertisements_of listing) → ⊥
unfolding advertisements_of
none_of_all items listing i end same none large = none (subst (λ (l : List (List ℕ)). HasLarge (map advertisement_of l)) (sym (take_all i items end ∙ same)) large)

pub none_at_start : (items : List (List ℕ)) → HasLarge (map advertisement_of (take 0 items)) → ⊥
none_at_start items h = absurd (omega (arith, h.1.1))

-- ---- links that are walked over

pub seen_more : (links yielded left_over : List Link) (link : Link) (rest : List Link) (most left : ℕ) → links ≡ yielded ++ left_over → left_over ≡ link ∷ rest
    → left + length yielded ≡ most → left ≡ 0 → most < length links
seen_more links yielded left_over link rest most left walked steps counted none_left =
    let all : length links ≡ length (yielded ++ (link ∷ rest)) = ap length (walked ∙ ap (λ (t : List Link). yielded ++ t) steps) in
    omega (arith, all, length-append yielded (link ∷ rest))

pub seen_all : (links yielded left_over : List Link) (most left : ℕ) → links ≡ yielded ++ left_over → left_over ≡ [] → left + length yielded ≡ most → most < length links → ⊥
seen_all links yielded left_over most left walked steps counted more =
    let all : length links ≡ length (yielded ++ []) = ap length (walked ∙ ap (λ (t : List Link). yielded ++ t) steps) in
    omega (arith, all, length-append {A = Link} yielded [])
