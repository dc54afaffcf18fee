-- Of several faults, the one with the least number is reported.
use Rattle.std.specs.Prelude.{ℕ, ◌<◌}

-- this fault is present, and none with a lower number: `There` says what it means that a fault is
-- present, and `Absent` that it is not
pub record IsFirst {F : Type 0} (number : F → ℕ) (There Absent : F → Type 0) (f : F) : Type 0 where
  pub broken : There f
  pub first : (g : F) → number g < number f → Absent g

-- the rule of this fault is broken, and each rule with a lower number holds
abbrev pub IsFirstBroken : {F : Type 0} → (F → ℕ) → (F → Type 0) → F → Type 0
IsFirstBroken number Rule f = IsFirst number (λ g. Rule g → ⊥) Rule f

-- this fault holds, and none of a lower number
abbrev pub IsFirstHeld : {F : Type 0} → (F → ℕ) → (F → Type 0) → F → Type 0
IsFirstHeld number Holds f = IsFirst number Holds (λ g. Holds g → ⊥) f
