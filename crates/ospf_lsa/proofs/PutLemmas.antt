-- An LSA that is put in the place of the one of its key, or in where its key belongs.
use Rattle.std.proofs.Common.{◌≡◌, ◌≢◌, ◌⊎◌, inl, inr, zero, suc, ℕ, ◌+◌, ◌<◌, List, [], ◌∷◌, ◌++◌, length, true, Result, Ok, Err, OnOk, OnErr, is_ok, get_or, set, take, drop, refl, sym, ap, subst, ◌∙◌, arith}
use Rattle.std.specs.List.{Contains}
use Rattle.std.proofs.lemmas.List.{drop_more, take-append-drop}
use Rattle.std.proofs.lemmas.List.Elements.{Contains-append_left, Contains-append_right, Contains-append_cases, Contains-push, Contains-push_cases}
use Rattle.ospf_base.specs.Keys.{Precedes}
use Rattle.ospf_lsa.specs.Lsa.{key_of}
use Rattle.ospf_lsa.specs.Listing.{IsListable, IsListing, IsPlace, IsPut}
use Rattle.ospf_lsa.proofs.Words.{IsRising}
use Rattle.ospf_lsa.proofs.ListingLemmas.{AllBefore, AllAfter, all_join, all_front, all_back, before_it, no_key, IsListing-insert}

-- one element more
with_more : (xs ys : List (List ℕ)) (y x : List ℕ) → Contains (xs ++ ys) x → Contains (xs ++ y ∷ ys) x
with_more xs ys y x m = elim (Contains-append_cases xs ys x m) [
  | inl front ↦ Contains-append_left xs (y ∷ ys) x front
  | inr back ↦ Contains-append_right xs (y ∷ ys) x (Contains-append_right (y ∷ []) ys x back)
]

it_is : (y x : List ℕ) → Contains (y ∷ []) x → y ≡ x
it_is y x m = elim (Contains-push_cases [] y x m) [ inl none ↦ absurd (let few = none.1 in omega arith) | inr same ↦ same ]

of_more : (xs ys : List (List ℕ)) (y x : List ℕ) → Contains (xs ++ y ∷ ys) x → (y ≡ x) ⊎ Contains (xs ++ ys) x
of_more xs ys y x m = elim (Contains-append_cases xs (y ∷ ys) x m) [
  | inl front ↦ inr (Contains-append_left xs ys x front)
  | inr back ↦ elim (Contains-append_cases (y ∷ []) ys x back) [
    | inl here ↦ inl (it_is y x here)
    | inr later ↦ inr (Contains-append_right xs ys x later)
  ]
]

module _ (l : List ℕ) (xs ys : List (List ℕ)) (below : AllBefore (key_of l) xs) (above : AllAfter (key_of l) ys) where
  -- none of the others has its key
  other_key : (x : List ℕ) → Contains (xs ++ ys) x → key_of x ≢ key_of l
  other_key x m same = no_key (key_of l) xs ys below above (m.0, x, m.1, m.2, same)

  there : Contains (xs ++ l ∷ ys) l
  there = Contains-append_right xs (l ∷ ys) l (Contains-append_left (l ∷ []) ys l (Contains-push [] l))

  put_between : IsPut l (xs ++ ys) (xs ++ l ∷ ys)
  put_between x = (
    λ m. elim (of_more xs ys l x m) [ inl same ↦ inl (sym same) | inr old ↦ inr (old, other_key x old) ],
    λ h. elim h [ inl same ↦ subst (λ z. Contains (xs ++ l ∷ ys) z) (sym same) there | inr old ↦ with_more xs ys l x old.0 ],
  )

  put_over : (y : List ℕ) → key_of y ≡ key_of l → IsPut l (xs ++ y ∷ ys) (xs ++ l ∷ ys)
  put_over y key x = (
    λ m. elim ((put_between x).0 m) [ inl same ↦ inl same | inr old ↦ inr (with_more xs ys y x old.0, old.1) ],
    λ h. (put_between x).1 (elim h [
      | inl same ↦ inl same
      | inr old ↦ elim (of_more xs ys y x old.0) [
        | inl same ↦ absurd (old.1 (ap key_of (sym same) ∙ key))
        | inr other ↦ inr (other, old.1)
      ]
    ]),
  )

-- what stands behind an LSA of a rising list comes after it
after_it : (xs : List (List ℕ)) (y : List ℕ) (ys : List (List ℕ)) → IsRising (xs ++ y ∷ ys) → AllAfter (key_of y) ys
after_it [] y ys rises = rises.0
after_it (x ∷ xs) y ys rises = after_it xs y ys rises.1

-- a rising list rises without one of its LSAs
rising_without : (xs : List (List ℕ)) (y : List ℕ) (ys : List (List ℕ)) → IsRising (xs ++ y ∷ ys) → IsRising (xs ++ ys)
rising_without [] y ys rises = rises.1
rising_without (x ∷ xs) y ys rises = (
  all_join (λ o. Precedes (key_of x) (key_of o)) xs ys (all_front (λ o. Precedes (key_of x) (key_of o)) xs (y ∷ ys) rises.0)
      (all_back (λ o. Precedes (key_of x) (key_of o)) xs (y ∷ ys) rises.0).1,
  rising_without xs y ys rises.1,
)

listing_without : (xs : List (List ℕ)) (y : List ℕ) (ys : List (List ℕ)) → IsListing (xs ++ y ∷ ys) → IsListing (xs ++ ys)
listing_without xs y ys is = record {
  rising = rising_without xs y ys is.rising;
  listed = all_join IsListable xs ys (all_front IsListable xs (y ∷ ys) is.listed) (all_back IsListable xs (y ∷ ys) is.listed).1;
}

set_is : (xs : List (List ℕ)) (i : ℕ) (y : List ℕ) → i < length xs → set xs i y ≡ take i xs ++ y ∷ drop (suc i) xs
set_is [] i y lt = absurd (omega arith)
set_is (x ∷ xs) zero y lt = refl
set_is (x ∷ xs) (suc i) y lt = ap (λ t. x ∷ t) (set_is xs i y (omega arith))

-- ---- by place

module _ (lsas : List (List ℕ)) (l : List ℕ) (at : ℕ) (is : IsListing lsas) where
  pub put_in_at : IsPlace lsas (key_of l) at → IsPut l lsas (take at lsas ++ l ∷ drop at lsas)
  put_in_at p =
      subst (λ (ls : List (List ℕ)). IsPut l ls (take at lsas ++ l ∷ drop at lsas)) (take-append-drop at lsas)
      (put_between l (take at lsas) (drop at lsas) p.before p.after)

  module _ (within : at < length lsas) (key : key_of (get_or lsas at l) ≡ key_of l) where
    abbrev front : List (List ℕ)
    front = take at lsas

    abbrev back : List (List ℕ)
    back = drop (at + 1) lsas

    abbrev old : List ℕ
    old = get_or lsas at l

    whole : front ++ old ∷ back ≡ lsas
    whole = ap (λ (t : List (List ℕ)). front ++ t) (sym (drop_more lsas at l within)) ∙ take-append-drop at lsas

    new_is : set lsas at l ≡ front ++ l ∷ back
    new_is = let next : suc at ≡ at + 1 = omega arith in set_is lsas at l within ∙ ap (λ n. front ++ l ∷ drop n lsas) next

    listed : IsListing (front ++ old ∷ back)
    listed = subst (λ (ls : List (List ℕ)). IsListing ls) (sym whole) is

    below : AllBefore (key_of l) front
    below = subst (λ k. AllBefore k front) key (before_it front old back listed.rising)

    above : AllAfter (key_of l) back
    above = subst (λ k. AllAfter k back) key (after_it front old back listed.rising)

    pub put_at : IsPut l lsas (set lsas at l)
    put_at =
        subst (λ (ls : List (List ℕ)). IsPut l lsas ls) (sym new_is)
        (subst (λ (ls : List (List ℕ)). IsPut l ls (front ++ l ∷ back)) whole (put_over l front back below above old key))

    pub listing_at : IsListable l → IsListing (set lsas at l)
    listing_at new =
        subst (λ (ls : List (List ℕ)). IsListing ls) (sym new_is)
        (IsListing-insert front l back (listing_without front old back listed) new below above)

-- ---- by result

pub on_err : {X E : Type 0} (r : Result X E) (P : Type 0) → P → OnErr r P
on_err (Ok x) P p = tt
on_err (Err e) P p = p

pub from_ok : {X E : Type 0} (r : Result X E) (P : Type 0) → is_ok r ≡ true → OnOk r P → P
from_ok (Ok x) P is p = p
from_ok (Err e) P is p = cc
