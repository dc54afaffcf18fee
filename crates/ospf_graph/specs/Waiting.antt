-- The candidates that wait, and how often they were looked at.
use Rattle.std.specs.Prelude.{◌+◌, ℕ, List, min}
use Rattle.ospf_graph.specs.declared.candidates.SpfCandidate.{SpfCandidate}

-- the candidates, and the looks
pub record Waiting : Type 0 where
  pub list : List SpfCandidate
  pub looks : ℕ

-- one look more, as far as a 64-bit number goes
abbrev pub one_more : ℕ → ℕ
one_more looks = min 18446744073709551615 (looks + 1)
