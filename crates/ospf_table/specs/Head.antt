-- The first line of version 2 of the JSON: what the lines after it are of, and what has to be known
-- about them (RFC 8259).
use Rattle.std.specs.Prelude.{ℕ, List, codes, length, map, not}
use Rattle.std.specs.Str.Lines.{lines}
use Rattle.serde_json.specs.Data.{Data, array, boolean, number, object, string, unsigned, member, no_members}
use Rattle.serde_json.specs.View.{items_of}
use Rattle.ospf_table.specs.Objects.{data_line}
use Rattle.ospf_table.specs.Outside.{is_nowhere, outside_of}

-- how many LSAs there are, and how many were left out since they are at MaxAge
abbrev pub input_data : ℕ → ℕ → Data
input_data lsas left_out =
    object
    (member (codes "left_out") (number (unsigned left_out))
    (member (codes "lsas") (number (unsigned lsas)) no_members))

-- texts, each by itself
abbrev pub texts_data : List (List ℕ) → Data
texts_data texts = array (items_of (map string texts))

-- the input; whether a listed router is an area border or AS boundary router, so that routes
-- outside the area are not computed; the version; and each line that standard error gets
abbrev pub head_data : List (List ℕ) → ℕ → List ℕ → Data
head_data listing left_out warnings =
    object
    (member (codes "input") (input_data (length listing) left_out)
    (member (codes "outside") (boolean (not (is_nowhere (outside_of listing))))
    (member (codes "version") (number (unsigned 2))
    (member (codes "warnings") (texts_data (lines warnings)) no_members))))

-- and the line
abbrev pub head_line : List (List ℕ) → ℕ → List ℕ → List ℕ
head_line listing left_out warnings = data_line (head_data listing left_out warnings)
