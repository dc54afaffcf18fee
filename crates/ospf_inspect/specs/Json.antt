-- Values of JSON, and how one is printed (RFC 8259).
use Rattle.std.specs.Prelude.{◌≡◌, ℕ, List, [], ◌∷◌, ◌++◌, codes}
use Rattle.serde_json.specs.Data.{Data, array}
use Rattle.serde_json.specs.View.{items_of}
use Rattle.serde_json.specs.Written.{compact_text}

-- a value on a line, without spaces
abbrev pub json_line : Data → List ℕ
json_line d = compact_text d ++ codes "\n"

-- a value for each of these in turn, which P says of it
pub data AreValues {X : Type 0} (P : X → Data → Type 0) : List X → List Data → Type 0 where
  no_values : AreValues P [] []
  more_values : {x : X} {xs : List X} {d : Data} {ds : List Data} → P x d → AreValues P xs ds
      → AreValues P (x ∷ xs) (d ∷ ds)

-- an array of such values
abbrev pub IsArray : {X : Type 0} → (X → Data → Type 0) → List X → Data → Type 0
IsArray P xs d = (ds : List Data) × AreValues P xs ds × (d ≡ array (items_of ds))
