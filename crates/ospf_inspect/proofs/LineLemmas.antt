-- Lines of things that are gone through.
use Rattle.std.proofs.Common.{◌≡◌, ◌<◌, ◌+◌, ◌++◌, ◌∷◌, ℕ, List, [], length, take, append_assoc, subst}
use Rattle.std.specs.Prelude.{get_or}
use Rattle.std.proofs.lemmas.List.{append-nil, take_more}
use Rattle.ospf_inspect.specs.Lines.{AreLines, no_lines, more_lines}

-- one line more
pub lines_more : {X : Type 0} (P : X → List ℕ → Type 0) (xs : List X) (x : X) (text line : List ℕ)
    → AreLines P xs text → P x line → AreLines P (xs ++ x ∷ []) (text ++ line)
lines_more P _ x _ line no_lines here = rw (← append-nil line) (more_lines here no_lines)
lines_more P _ x _ line (more_lines {x = y} {xs = ys} {line = first} {lines = lines} is rest) here =
    rw (append_assoc first lines line) (more_lines is (lines_more P ys x lines line rest here))

pub lines_next : {X : Type 0} (P : X → List ℕ → Type 0) (xs : List X) (i : ℕ) (x : X) (text line : List ℕ) → i < length xs → x ≡ get_or xs i x
    → AreLines P (take i xs) text → P x line → AreLines P (take (i + 1) xs) (text ++ line)
lines_next P xs i x text line lt is before here = rw (take_more xs i x lt, ← is) (lines_more P (take i xs) x text line before here)

-- the same text
pub lines_at : {X : Type 0} (P : X → List ℕ → Type 0) (xs : List X) {text same : List ℕ} → text ≡ same → AreLines P xs text → AreLines P xs same
lines_at P xs is lines = subst (AreLines P xs) is lines
