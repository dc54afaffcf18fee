-- One more element of a numbered list.
use Rattle.std.proofs.Common.{◌≡◌, ◌<◌, ◌+◌, ℕ, List, [], ◌∷◌, ◌++◌, ◌∙◌, ap, sym, arith, get_or, length, take}
use Rattle.std.proofs.lemmas.List.{take_more, length-take}
use Rattle.std.proofs.lemmas.Grind.{flat_map-append}
use Rattle.std.specs.List.{enumerate_from, flat_map}
use Rattle.ospf_plan.proofs.Steps.{enumerated_push}

pub flat_map_more : {X Y : Type 0} (xs : List X) (i : ℕ) (x : X) → i < length xs → x ≡ get_or xs i x → (f : ℕ × X → List Y)
    → flat_map f (enumerate_from 0 (take (i + 1) xs)) ≡ flat_map f (enumerate_from 0 (take i xs)) ++ (f (i, x) ++ [])
flat_map_more xs i x within is f =
    let taken : take (i + 1) xs ≡ take i xs ++ x ∷ [] = take_more xs i x within ∙ ap (λ y. take i xs ++ y ∷ []) (sym is) in
    let counted : 0 + length (take i xs) ≡ i = grind (arith, length-take i xs) in
    ap (λ ys. flat_map f (enumerate_from 0 ys)) taken
    ∙ ap (flat_map f) (enumerated_push 0 (take i xs) x ∙ ap (λ k. enumerate_from 0 (take i xs) ++ (k, x) ∷ []) counted)
    ∙ flat_map-append f (enumerate_from 0 (take i xs)) ((i, x) ∷ [])
