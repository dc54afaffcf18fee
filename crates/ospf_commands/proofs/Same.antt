-- Bytes that are compared.
use Rattle.std.proofs.Common.{◌≡◌, ◌∙◌, sym, refl, ℕ, List, Bool, true, false}
use Rattle.std.proofs.lemmas.Slice.Eq.{bytes_eq-Decides}
use Rattle.std.specs.Prelude.{bytes_eq, not}

is_false : (t : Bool) → not t ≡ true → t ≡ false
is_false true h = sym h
is_false false h = refl

is_true : (t : Bool) → not t ≡ false → t ≡ true
is_true true h = refl
is_true false h = sym h

apart : (xs ys : List ℕ) → bytes_eq xs ys ≡ false → xs ≡ ys → ⊥
apart xs ys h same = absurd (let no : true ≡ false = sym ((bytes_eq-Decides xs ys).1 same) ∙ h in cc)

-- `==` of them
pub are_same : (b : Bool) (xs ys : List ℕ) → b ≡ bytes_eq xs ys → b ≡ true → xs ≡ ys
are_same b xs ys is h = (bytes_eq-Decides xs ys).0 (sym is ∙ h)

pub are_not_same : (b : Bool) (xs ys : List ℕ) → b ≡ bytes_eq xs ys → b ≡ false → xs ≡ ys → ⊥
are_not_same b xs ys is h = apart xs ys (sym is ∙ h)

-- `!=` of them
pub are_other : (b : Bool) (xs ys : List ℕ) → b ≡ not (bytes_eq xs ys) → b ≡ true → xs ≡ ys → ⊥
are_other b xs ys is h = apart xs ys (is_false (bytes_eq xs ys) (sym is ∙ h))

pub are_not_other : (b : Bool) (xs ys : List ℕ) → b ≡ not (bytes_eq xs ys) → b ≡ false → xs ≡ ys
are_not_other b xs ys is h = (bytes_eq-Decides xs ys).0 (is_true (bytes_eq xs ys) (sym is ∙ h))
