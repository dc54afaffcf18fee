-- Lines of which each says something of one thing.
use Rattle.std.specs.Prelude.{ℕ, List, [], ◌∷◌, ◌++◌}

-- the text is, for each of these in turn, one that P says of it
pub data AreLines {X : Type 0} (P : X → List ℕ → Type 0) : List X → List ℕ → Type 0 where
  no_lines : AreLines P [] []
  more_lines : {x : X} {xs : List X} {line lines : List ℕ} → P x line → AreLines P xs lines
      → AreLines P (x ∷ xs) (line ++ lines)
