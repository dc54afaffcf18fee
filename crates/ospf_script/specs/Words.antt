-- The words of a line: what stands between its spaces.
use Rattle.std.specs.Prelude.{◌==◌, ℕ, Bool, List, Option, None, Some, length, not}
use Rattle.std.specs.List.{filter, slice_split}

-- a word, or a line: its bytes
abbrev pub Text : Type 0
Text = List ℕ

-- the byte is a space
abbrev pub is_space : ℕ → Bool
is_space byte = byte == 32

-- the text is not empty
abbrev pub is_word : Text → Bool
is_word part = not (length part == 0)

-- the words of a line: of its parts between spaces those that are not empty
abbrev pub line_words : Text → List Text
line_words line = filter is_word (slice_split is_space line)

-- what is found: a value of which this holds, or nothing where it holds of none
abbrev pub Finds : {A : Type 0} → Option A → (A → Type 0) → Type 0
Finds (Some found) P = P found
Finds None P = (value : _) → P value → ⊥
