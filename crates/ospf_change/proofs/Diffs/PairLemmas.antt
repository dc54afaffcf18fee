-- Two lists whose elements have the same keys, one by one.
use Rattle.std.proofs.Common.{◌≡◌, ◌∙◌, ◌<◌, ℕ, List, [], ◌∷◌, length, get_or, map, ap, sym, subst, inl, inr, arith}
use Rattle.std.specs.List.{All, AllPairs, Contains}
use Rattle.std.proofs.lemmas.List.Elements.{Contains-get_or}
use Rattle.std.proofs.lemmas.List.Kept.{AllPairs-cons}
use Rattle.ospf_graph.proofs.ListLemmas.{member_cases, member_head, member_later}
use Rattle.ospf_graph.proofs.TableLemmas.{head_before, pairs_tail}

module _ {X Y K : Type 0} (f : X → K) (g : Y → K) where
  -- one of the first list has the key of one of the second
  pub has_key : (xs : List X) (ys : List Y) → map f xs ≡ map g ys → (y : Y) → Contains ys y → (x : X) × Contains xs x × (f x ≡ g y)
  has_key [] [] e y c = absurd (let low = c.1 in omega arith)
  has_key [] (z ∷ ys) e y c = cc
  has_key (x ∷ xs) [] e y c = cc
  has_key (x ∷ xs) (z ∷ ys) e y c =
      let head : f x ≡ g z = cc in
      let tail : map f xs ≡ map g ys = cc in
      elim (member_cases z ys y c) [
        | inl is ↦ (x, member_head x xs, head ∙ ap g is)
        | inr rest ↦ let r = has_key xs ys tail y rest in (r.0, member_later x xs r.0 r.1, r.2)
      ]

-- the first list is in order by its keys where the second is
pub pairs_by_keys : {X Y K : Type 0} (f : X → K) (g : Y → K) (R : K → K → Type 0) (xs : List X) (ys : List Y) → map f xs ≡ map g ys
    → AllPairs (λ a b. R (g a) (g b)) ys → AllPairs (λ a b. R (f a) (f b)) xs
pairs_by_keys f g R [] ys e order = λ i j d lt le. absurd (omega arith)
pairs_by_keys f g R (x ∷ xs) [] e order = cc
pairs_by_keys {X} {Y} {K} f g R (x ∷ xs) (y ∷ ys) e order =
    let head : f x ≡ g y = cc in
    let tail : map f xs ≡ map g ys = cc in
    let first : All (λ b. R (f x) (f b)) xs = λ k d lt.
    let b = get_or xs k d in
    let at = has_key g f ys xs (sym tail) b (Contains-get_or xs k d lt) in
    let before : R (g y) (g at.0) = head_before (λ a b. R (g a) (g b)) y ys order at.0 at.1 in
    subst (λ (k : K). R k (f b)) (sym head) (subst (λ (k : K). R (g y) k) at.2 before) in
    AllPairs-cons (λ a b. R (f a) (f b)) x xs first (pairs_by_keys f g R xs ys tail (pairs_tail (λ a b. R (g a) (g b)) y ys order))
