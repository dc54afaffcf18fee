-- Lists whose members rise.
use Rattle.std.specs.Prelude.{List, [], ◌∷◌, ⊤}
use Rattle.std.specs.List.{AllByRecursion}

-- each member is in the relation with each later one
abbrev pub IsRisingBy : {X : Type 0} → (X → X → Type 0) → List X → Type 0
IsRisingBy R [] = ⊤
IsRisingBy R (x ∷ xs) = AllByRecursion (R x) xs × IsRisingBy R xs
