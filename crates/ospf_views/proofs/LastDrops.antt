-- The last datagram of which something holds.
use Rattle.std.proofs.Common.{◌≡◌, ◌+◌, ◌++◌, ◌∷◌, ◌∙◌, ap, sym, ℕ, Bool, true, false, List, [], Option, Some, length, arith}
use Rattle.std.specs.Prelude.{find, reverse, if◌then◌else◌}
use Rattle.std.specs.List.{enumerate_from}
use Rattle.std.proofs.lemmas.List.{reverse-append}

-- the place of the last
enumerated_last : {X : Type 0} (n : ℕ) (xs : List X) (y : X) → enumerate_from n (xs ++ y ∷ []) ≡ enumerate_from n xs ++ (n + length xs, y) ∷ []
enumerated_last n [] y = ap (λ m. (m, y) ∷ []) (omega arith)
enumerated_last n (x ∷ xs) y =
    let place : n + 1 + length xs ≡ n + length (x ∷ xs) = omega arith in
    ap (λ es. (n, x) ∷ es) (enumerated_last (n + 1) xs y ∙ ap (λ m. enumerate_from (n + 1) xs ++ (m, y) ∷ []) place)

-- backwards it comes first
pub reversed_last : {X : Type 0} (xs : List X) (y : X) → reverse (enumerate_from 0 (xs ++ y ∷ [])) ≡ (length xs, y) ∷ reverse (enumerate_from 0 xs)
reversed_last xs y =
    let place : 0 + length xs ≡ length xs = omega arith in
    ap reverse (enumerated_last 0 xs y ∙ ap (λ m. enumerate_from 0 xs ++ (m, y) ∷ []) place) ∙ reverse-append (enumerate_from 0 xs) ((length xs, y) ∷ [])

-- it is the last, or one before it
pub last_or_before : {X : Type 0} (p : ℕ × X → Bool) (xs : List X) (y : X)
    → find p (reverse (enumerate_from 0 (xs ++ y ∷ []))) ≡ (if p (length xs, y) then Some (length xs, y) else find p (reverse (enumerate_from 0 xs)))
last_or_before p xs y = ap (find p) (reversed_last xs y)

pub is_last : {X : Type 0} (p : ℕ × X → Bool) (rest before : List X) (y : X) (found : Option (ℕ × X)) → rest ≡ before ++ y ∷ []
    → p (length before, y) ≡ true → find p (reverse (enumerate_from 0 rest)) ≡ found → found ≡ Some (length before, y)
is_last p rest before y found split is same =
    sym same ∙ ap (λ xs. find p (reverse (enumerate_from 0 xs))) split ∙ last_or_before p before y
    ∙ ap (λ (b : Bool). if b then Some (length before, y) else find p (reverse (enumerate_from 0 before))) is

pub is_before : {X : Type 0} (p : ℕ × X → Bool) (rest before : List X) (y : X) (found : Option (ℕ × X)) → rest ≡ before ++ y ∷ []
    → p (length before, y) ≡ false → find p (reverse (enumerate_from 0 rest)) ≡ found → find p (reverse (enumerate_from 0 before)) ≡ found
is_before p rest before y found split is same =
    sym (ap (λ xs. find p (reverse (enumerate_from 0 xs))) split ∙ last_or_before p before y
    ∙ ap (λ (b : Bool). if b then Some (length before, y) else find p (reverse (enumerate_from 0 before))) is) ∙ same
