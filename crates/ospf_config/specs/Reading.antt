-- What the value at a key means, or which fault it has.
use Rattle.std.specs.Prelude.{◌≡◌, ℕ, ℤ, pos, ◌≤◌, List, [], ◌∷◌, Option, Some, None, option_map, Result, Ok, Err}
use Rattle.toml.specs.Data.{Data, Items, no_items, item, integer, array, as_integer}
use Rattle.ospf_config.specs.declared.fault.ConfigFault.{ConfigFault}
use Rattle.ospf_config.specs.declared.fault.ConfigFault.TheVariants as fault

-- a value of another type has the fault Type, and one that means nothing the fault Range
abbrev pub ReadsValue : {D T : Type 0} → (D → T → Type 0) → Option D → Result T ConfigFault → Type 0
ReadsValue Means None r = r ≡ Err fault.Type
ReadsValue Means (Some d) (Ok v) = Means d v
ReadsValue {D} {T} Means (Some d) (Err f) = (f ≡ fault.Range) × ((v : T) → Means d v → ⊥)

-- a key that has no default
abbrev pub Required : {D T : Type 0} → (Data → Option D) → (D → T → Type 0) → Option Data
    → Result T ConfigFault → Type 0
Required typed Means None r = r ≡ Err fault.Missing
Required typed Means (Some d) r = ReadsValue Means (typed d) r

-- a key that has a default
abbrev pub Optional : {D T : Type 0} → (Data → Option D) → (D → T → Type 0) → T → Option Data
    → Result T ConfigFault → Type 0
Optional typed Means default None r = r ≡ Ok default
Optional typed Means default (Some d) r = ReadsValue Means (typed d) r

-- the integer is a number of this range
abbrev pub IsNumberIn : ℕ → ℕ → ℤ → ℕ → Type 0
IsNumberIn low high z n = (z ≡ pos n) × (low ≤ n) × (n ≤ high)

-- the integer at a key, whatever its size: the default where the key is not there, and none where
-- the value is no integer
abbrev pub integer_or : ℕ → Option Data → Option ℤ
integer_or default None = Some (pos default)
integer_or default (Some d) = as_integer d

-- the integers of a list, if each member is one
abbrev pub integers_of : Items → Option (List ℤ)
integers_of no_items = Some []
integers_of (item (integer z) ds) = option_map (λ zs. z ∷ zs) (integers_of ds)
integers_of (item _ ds) = None

-- the integers of an array of them; else none
abbrev pub as_integers : Data → Option (List ℤ)
as_integers (array ds) = integers_of ds
as_integers _ = None
