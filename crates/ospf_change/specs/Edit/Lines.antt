-- LSAs as lines of text.
use Rattle.std.specs.Prelude.{◌++◌, ℕ, List, codes}
use Rattle.std.specs.List.{flat_map}
use Rattle.hex.specs.Hex.{encode_lower}

-- an LSA as a line of hexadecimal digits
abbrev pub lsa_line : List ℕ → List ℕ
lsa_line lsa = encode_lower lsa ++ codes "\n"

-- the LSAs of a listing, in its order
abbrev pub hex_lines : List (List ℕ) → List ℕ
hex_lines lsas = flat_map lsa_line lsas
