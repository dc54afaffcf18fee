-- Members of a list with their places.
use Rattle.std.proofs.Common.{◌≡◌, ◌<◌, ◌≤◌, ◌+◌, ◌++◌, ◌∷◌, ◌∙◌, ap, sym, ℕ, List, [], length, take, get_or, flat_map, arith}
use Rattle.std.specs.List.{enumerate_from}
use Rattle.std.proofs.lemmas.List.{append-nil, take_all, take_more}
use Rattle.std.proofs.lemmas.List.Concat.{flat_map-append}
use Rattle.std.proofs.lemmas.List.FromFn.{get_or-enumerate_from, length-enumerate_from}

-- one more
pub one_more : {X Y : Type 0} (f : ℕ × X → List Y) (xs : List X) (n : ℕ) (x : X) → n < length xs → x ≡ get_or xs n x
    → flat_map f (take (n + 1) (enumerate_from 0 xs)) ≡ flat_map f (take n (enumerate_from 0 xs)) ++ f (n, x)
one_more f xs n x within is =
    let there : n < length (enumerate_from 0 xs) = (let h = length-enumerate_from 0 xs in omega (arith, h, within)) in
    let zero_more : 0 + n ≡ n = omega arith in
    let at : get_or (enumerate_from 0 xs) n (n, x) ≡ (n, x) = get_or-enumerate_from 0 xs n (n, x) within ∙ (λ i. (zero_more i, sym is i)) in
    ap (flat_map f) (take_more (enumerate_from 0 xs) n (n, x) there) ∙ flat_map-append f (take n (enumerate_from 0 xs)) (get_or (enumerate_from 0 xs) n (n, x) ∷ [])
    ∙ ap (λ e. flat_map f (take n (enumerate_from 0 xs)) ++ flat_map f (e ∷ [])) at
    ∙ ap (λ ys. flat_map f (take n (enumerate_from 0 xs)) ++ ys) (append-nil (f (n, x)))

-- all
pub all_there : {X Y : Type 0} (f : ℕ × X → List Y) (xs : List X) (n : ℕ) → length xs ≤ n
    → flat_map f (take n (enumerate_from 0 xs)) ≡ flat_map f (enumerate_from 0 xs)
all_there f xs n all =
    let short : length (enumerate_from 0 xs) ≤ n = (let h = length-enumerate_from 0 xs in omega (arith, h, all)) in
    ap (flat_map f) (take_all n (enumerate_from 0 xs) short)
