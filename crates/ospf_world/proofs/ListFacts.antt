-- Lists of events and counts.
use Rattle.std.proofs.Common.{◌≡◌, ◌<◌, ◌≤◌, ◌+◌, ◌-◌, ℕ, suc, zero, List, [], ◌∷◌, Some, slice_get, arith}
use Rattle.std.specs.List.{Contains}

-- one fewer is left
pub one_left : (n i : ℕ) → i < n → n - i ≡ suc (n - (i + 1))
one_left n i within = omega arith

pub none_left : (n i : ℕ) → n ≤ i → n - i ≡ zero
none_left n i all = omega arith

-- what stands at a place is in the list
pub contains_at : {X : Type 0} (xs : List X) (i : ℕ) (x : X) → slice_get xs i ≡ Some x → Contains xs x
contains_at [] i x is = cc
contains_at (y ∷ ys) zero x is = (zero, omega arith, (let same : y ≡ x = cc in same))
contains_at (y ∷ ys) (suc i) x is = let h = contains_at ys i x is in (suc h.0, omega arith, h.2)
