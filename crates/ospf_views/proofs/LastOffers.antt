-- What is said of the last so many of which something holds, the newest first.
use Rattle.std.proofs.Common.{◌≡◌, ◌-◌, ◌<◌, ◌++◌, ◌∷◌, ◌∙◌, ap, sym, subst, ℕ, zero, suc, Bool, true, false, List, [], length, arith, append_assoc, append-nil}
use Rattle.std.specs.Prelude.{filter, flat_map, reverse, take, if◌then◌else◌}
use Rattle.std.specs.List.{enumerate_from}
use Rattle.ospf_views.proofs.LastDrops.{reversed_last}

-- those among the last so many
abbrev pub newest : {X : Type 0} → (ℕ × X → Bool) → ℕ → List X → List (ℕ × X)
newest p most xs = take most (filter p (reverse (enumerate_from 0 xs)))

newest_split : {X : Type 0} (p : ℕ × X → Bool) (most : ℕ) (rest before : List X) (y : X) → rest ≡ before ++ y ∷ []
    → newest p most rest ≡ take most (if p (length before, y) then (length before, y) ∷ filter p (reverse (enumerate_from 0 before)) else filter p (reverse (enumerate_from 0 before)))
newest_split p most rest before y split =
    ap (newest p most) split ∙ ap (λ es. take most (filter p es)) (reversed_last before y)

-- the last is one of them
pub one_more : {X : Type 0} (L : ℕ × X → List ℕ) (p : ℕ × X → Bool) (most : ℕ) (rest before : List X) (y : X) (text all : List ℕ) → rest ≡ before ++ y ∷ [] → 0 < most
    → p (length before, y) ≡ true → text ++ flat_map L (newest p most rest) ≡ all → (text ++ L (length before, y)) ++ flat_map L (newest p (most - 1) before) ≡ all
one_more L p zero rest before y text all split some is so = absurd (omega (arith, some))
one_more L p (suc n) rest before y text all split some is so =
    let less : n ≡ suc n - 1 = omega arith in
    subst (λ m. (text ++ L (length before, y)) ++ flat_map L (newest p m before) ≡ all) less
    (append_assoc text (L (length before, y)) (flat_map L (newest p n before))
    ∙ sym (ap (λ es. text ++ flat_map L es) (newest_split p (suc n) rest before y split
    ∙ ap (λ (b : Bool). take (suc n) (if b then (length before, y) ∷ filter p (reverse (enumerate_from 0 before)) else filter p (reverse (enumerate_from 0 before)))) is)) ∙ so)

-- or it is not
pub none_more : {X : Type 0} (L : ℕ × X → List ℕ) (p : ℕ × X → Bool) (most : ℕ) (rest before : List X) (y : X) (text all : List ℕ) → rest ≡ before ++ y ∷ []
    → p (length before, y) ≡ false → text ++ flat_map L (newest p most rest) ≡ all → text ++ flat_map L (newest p most before) ≡ all
none_more L p most rest before y text all split is so =
    sym (ap (λ es. text ++ flat_map L es) (newest_split p most rest before y split
    ∙ ap (λ (b : Bool). take most (if b then (length before, y) ∷ filter p (reverse (enumerate_from 0 before)) else filter p (reverse (enumerate_from 0 before)))) is)) ∙ so

-- there are none before the first, nor where none is wanted
pub no_more : {X : Type 0} (L : ℕ × X → List ℕ) (p : ℕ × X → Bool) (most : ℕ) (rest : List X) (text all : List ℕ) → most ≡ 0
    → text ++ flat_map L (newest p most rest) ≡ all → text ≡ all
no_more L p most rest text all none so = sym (append-nil text) ∙ ap (λ m. text ++ flat_map L (newest p m rest)) (sym none) ∙ so
