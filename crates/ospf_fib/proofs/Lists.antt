-- The last of a list.
use Rattle.std.proofs.Common.{◌≡◌, ◌+◌, ◌-◌, List, [], ◌∷◌, ◌++◌, length, Some, slice_get, ap, sym, ◌∙◌, arith}
use mathlib.Core.List.{IsPrefix}
use Rattle.ospf_fib.specs.PrefixIndex.Known.{Table}

-- the last place of a list that is not empty
at_last : (y : Table) (ys : List Table) (t : Table) → slice_get (y ∷ ys) (length (y ∷ ys) - 1) ≡ Some t → slice_get (y ∷ ys) (length ys) ≡ Some t
at_last y ys t e = let n : length (y ∷ ys) - 1 ≡ length ys = omega arith in sym (ap (slice_get (y ∷ ys)) n) ∙ e

-- a list that has a table at that place ends with it
ends_at : (y : Table) (ys : List Table) (t : Table) → slice_get (y ∷ ys) (length ys) ≡ Some t → (before : List Table) × (y ∷ ys ≡ before ++ t ∷ [])
ends_at y [] t e = ([], cc)
ends_at y (z ∷ ys) t e = let r = ends_at z ys t e in (y ∷ r.0, ap (λ l. y ∷ l) r.1)

-- a list that has a table at its last place ends with it
pub ends_with : (xs : List Table) (t : Table) → slice_get xs (length xs - 1) ≡ Some t → (before : List Table) × (xs ≡ before ++ t ∷ [])
ends_with [] t e = absurd cc
ends_with (y ∷ ys) t e = ends_at y ys t (at_last y ys t e)

-- a list that goes one table further
pub one_more : (xs ys : List Table) (t : Table) → IsPrefix xs ys → length ys ≡ length xs + 1 → slice_get ys (length ys - 1) ≡ Some t → ys ≡ xs ++ t ∷ []
one_more xs [] t p n e = absurd (omega (arith, n))
one_more xs (y ∷ ys) t p n e = go xs y ys t p (omega (arith, n)) (at_last y ys t e)
  where
    go : (xs : List Table) (y : Table) (ys : List Table) (t : Table) → IsPrefix xs (y ∷ ys) → length ys ≡ length xs → slice_get (y ∷ ys) (length ys) ≡ Some t → y ∷ ys ≡ xs ++ t ∷ []
    go [] y [] t p n e = cc
    go [] y (z ∷ ys) t p n e = absurd (omega (arith, n))
    go (x ∷ xs) y [] t p n e = absurd (omega (arith, n))
    go (x ∷ xs) y (z ∷ ys) t p n e =
        let r = go xs z ys t (p.0, cc (p.1)) (omega (arith, n)) e in
        let same : x ≡ y = cc (p.1) in cc (r, same)
