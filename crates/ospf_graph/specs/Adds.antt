-- Lists to which elements are added.
use Rattle.std.specs.Prelude.{◌↔◌, ◌⊎◌, List, Contains}

-- exactly what P says is added
abbrev pub Adds : {X : Type 0} → (X → Type 0) → List X → List X → Type 0
Adds {X} P old new = (x : X) → Contains new x ↔ (Contains old x ⊎ P x)
