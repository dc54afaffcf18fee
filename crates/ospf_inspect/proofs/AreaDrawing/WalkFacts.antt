-- The steps of a walk.
use Rattle.std.proofs.Common.{◌≡◌, ◌++◌, ◌∷◌, ap, sym, refl, List, [], drop, flat_map}
use Rattle.std.specs.Prelude.{zip}
use Rattle.std.proofs.lemmas.List.{append-nil}

-- the first, and those behind
pub steps_more : {X Y : Type 0} (f : X × X → List Y) (x : X) (xs : List X)
    → flat_map f (zip (x ∷ xs) (drop 1 (x ∷ xs))) ≡ flat_map f (zip (x ∷ []) xs) ++ flat_map f (zip xs (drop 1 xs))
steps_more f x [] = refl
steps_more f x (y ∷ ys) = ap (λ zs. zs ++ flat_map f (zip (y ∷ ys) ys)) (sym (append-nil (f (x, y))))
