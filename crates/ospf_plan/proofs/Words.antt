-- Lists whose members rise, said by the members that a list holds.
use Rattle.std.specs.Prelude.{List, [], ◌∷◌, Contains, ⊤}
use Rattle.std.specs.List.{AllByRecursion}
use Rattle.ospf_base.specs.Rising.{IsRisingBy}
use Rattle.ospf_plan.proofs.Members.{head_in, later_in}

-- each member is in the relation with each later one
abbrev pub RisesBy : {X : Type 0} → (X → X → Type 0) → List X → Type 0
RisesBy R [] = ⊤
RisesBy {X} R (x ∷ xs) = ((y : X) → Contains xs y → R x y) × RisesBy R xs

holds_of_each : {X : Type 0} (P : X → Type 0) (xs : List X) → ((y : X) → Contains xs y → P y) → AllByRecursion P xs
holds_of_each P [] each = tt
holds_of_each P (x ∷ xs) each = (each x (head_in x xs), holds_of_each P xs (λ y at. each y (later_in x xs y at)))

-- said by recursion
pub is_rising : {X : Type 0} (R : X → X → Type 0) (xs : List X) → RisesBy R xs → IsRisingBy R xs
is_rising R [] up = tt
is_rising R (x ∷ xs) up = (holds_of_each (R x) xs up.0, is_rising R xs up.1)
