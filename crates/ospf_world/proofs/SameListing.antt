-- Listings of the same instances say the same, where LSAs of one instance have equal contents.
use Rattle.std.proofs.Common.{◌≡◌, ◌⊎◌, inl, inr, ℕ, zero, suc, List, [], ◌∷◌, refl, sym, ap, subst, ◌∙◌, arith}
use Rattle.std.specs.List.{Contains, AllByRecursion}
use Rattle.ospf_base.specs.declared.ids.Instance.{Instance}
use Rattle.ospf_base.specs.Keys.{Precedes}
use Rattle.ospf_base.proofs.KeyOrder.{Precedes-trans, Precedes-irrefl}
use Rattle.ospf_base.specs.Sums.{contents}
use Rattle.ospf_base.specs.declared.ids.Kind.{Kind}
use Rattle.ospf_base.specs.declared.ids.Kind.TheVariants.{Router, Network}
use Rattle.ospf_lsa.specs.Lsa.{key_of, instance_of, kind_of}
use Rattle.ospf_lsa.proofs.Words.{IsRising}
use Rattle.ospf_graph.specs.Advertisements.{Advertisement}
use Rattle.ospf_graph.specs.EdgeLists.Listed.{advertisement_of, advertisements_of, advertisement_by}
use Rattle.ospf_world.specs.Listings.{ListsInstance, ListTheSame}
use Rattle.ospf_router.proofs.AreaStep.SentFacts.{first_or_later}

-- LSAs of one instance have equal contents
abbrev pub AgreeByInstance : List (List ℕ) → List (List ℕ) → Type 0
AgreeByInstance a b =
    (x y : List ℕ) → Contains a x → Contains b y → instance_of x ≡ instance_of y
    → contents x ≡ contents y

-- what an LSA says does not depend on its age
kind_same : (a b : ℕ) (rest : List ℕ) → kind_of (a ∷ b ∷ rest) ≡ kind_of (0 ∷ 0 ∷ rest)
kind_same a b rest = refl

by_same : (k : Kind) (a b : ℕ) (rest : List ℕ) → advertisement_by k (a ∷ b ∷ rest) ≡ advertisement_by k (0 ∷ 0 ∷ rest)
by_same Router a b rest = refl
by_same Network a b rest = refl

pub advertisement_of-contents : (lsa : List ℕ) → advertisement_of lsa ≡ advertisement_of (0 ∷ 0 ∷ contents lsa)
advertisement_of-contents [] = refl
advertisement_of-contents (a ∷ []) = refl
advertisement_of-contents (a ∷ b ∷ rest) = by_same (kind_of (a ∷ b ∷ rest)) a b rest ∙ ap (λ k. advertisement_by k (0 ∷ 0 ∷ rest)) (kind_same a b rest)

same_advertisement : (x y : List ℕ) → contents x ≡ contents y → advertisement_of x ≡ advertisement_of y
same_advertisement x y same = advertisement_of-contents x ∙ (ap (λ c. advertisement_of (0 ∷ 0 ∷ c)) same ∙ sym (advertisement_of-contents y))

from_all : {X : Type 0} (P : X → Type 0) (xs : List X) (x : X) → AllByRecursion P xs → Contains xs x → P x
from_all P [] x all (k, within, is) = absurd (omega arith)
from_all P (y ∷ xs) x all (zero, within, is) = subst P is all.0
from_all P (y ∷ xs) x all (suc k, within, is) = from_all P xs x all.1 (k, omega arith, is)

later : {X : Type 0} (y : X) (xs : List X) (x : X) → Contains xs x → Contains (y ∷ xs) x
later y xs x (k, within, is) = (suc k, omega arith, is)

-- of two rising lists of the same instances the first LSAs are of one
module _ (x y : List ℕ) (xs ys : List (List ℕ)) (rise_x : IsRising (x ∷ xs)) (rise_y : IsRising (y ∷ ys)) (same : ListTheSame (x ∷ xs) (y ∷ ys)) where
  behind : (z : List ℕ) (zs : List (List ℕ)) (i : Instance) → IsRising (z ∷ zs) → ListsInstance (z ∷ zs) i → (instance_of z ≡ i) ⊎ Precedes (key_of z) i.key
  behind z zs i rises (lsa, listed, is) = elim (first_or_later z zs lsa listed) [
    | inl first ↦ inl (ap instance_of first ∙ is)
    | inr rest ↦ inr (subst (λ i. Precedes (key_of z) i.key) is (from_all (λ o. Precedes (key_of z) (key_of o)) zs lsa rises.0 rest))
  ]

  x_in_y : (instance_of y ≡ instance_of x) ⊎ Precedes (key_of y) (key_of x)
  x_in_y = behind y ys (instance_of x) rise_y ((same (instance_of x)).0 (x, (0, omega arith, refl), refl))

  y_in_x : (instance_of x ≡ instance_of y) ⊎ Precedes (key_of x) (key_of y)
  y_in_x = behind x xs (instance_of y) rise_x ((same (instance_of y)).1 (y, (0, omega arith, refl), refl))

  same_first : instance_of x ≡ instance_of y
  same_first = elim x_in_y [
    | inl is ↦ sym is
    | inr y_first ↦ elim y_in_x [
      | inl is ↦ is
      | inr x_first ↦ absurd (Precedes-irrefl (key_of x) (Precedes-trans (key_of x) (key_of y) (key_of x) x_first y_first))
    ]
  ]

  -- what is listed behind the first is behind the first of the other
  past_first : (z z' : List ℕ) (zs zs' : List (List ℕ)) (i : Instance) → IsRising (z ∷ zs) → instance_of z ≡ instance_of z' → ListsInstance zs i → ListsInstance (z' ∷ zs') i → ListsInstance zs' i
  past_first z z' zs zs' i rises first (o, here, is) (lsa, listed, has) = elim (first_or_later z' zs' lsa listed) [
    | inl this ↦ absurd (Precedes-irrefl i.key (subst (λ j. Precedes j.key i.key) (first ∙ (ap instance_of this ∙ has)) (subst (λ j. Precedes (key_of z) j.key) is (from_all (λ o. Precedes (key_of z) (key_of o)) zs o rises.0 here))))
    | inr rest ↦ (lsa, rest, has)
  ]

  same_rest : ListTheSame xs ys
  same_rest i = (
    λ lists. past_first x y xs ys i rise_x same_first lists ((same i).0 (lists.0, later x xs lists.0 lists.1, lists.2)),
    λ lists. past_first y x ys xs i rise_y (sym same_first) lists ((same i).1 (lists.0, later y ys lists.0 lists.1, lists.2)),
  )

two : (x y : Advertisement) (xs ys : List Advertisement) → x ≡ y → xs ≡ ys → x ∷ xs ≡ y ∷ ys
two x y xs ys p q = cc

pub same_advertisements : (a b : List (List ℕ)) → IsRising a → IsRising b → ListTheSame a b → AgreeByInstance a b → advertisements_of a ≡ advertisements_of b
unfolding advertisements_of
same_advertisements [] [] rise_a rise_b same agree = refl
same_advertisements [] (y ∷ ys) rise_a rise_b same agree = absurd (let (lsa, (k, within, is), has) = (same (instance_of y)).1 (y, (0, omega arith, refl), refl) in omega arith)
same_advertisements (x ∷ xs) [] rise_a rise_b same agree = absurd (let (lsa, (k, within, is), has) = (same (instance_of x)).0 (x, (0, omega arith, refl), refl) in omega arith)
same_advertisements (x ∷ xs) (y ∷ ys) rise_a rise_b same agree =
    two _ _ _ _ (same_advertisement x y (agree x y (0, omega arith, refl) (0, omega arith, refl) (same_first x y xs ys rise_a rise_b same)))
    (same_advertisements xs ys rise_a.1 rise_b.1 (same_rest x y xs ys rise_a rise_b same) (λ u v in_u in_v. agree u v (later x xs u in_u) (later y ys v in_v)))
