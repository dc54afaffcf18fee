-- A part of a definition of specs/ by a name of its own, for the proofs.
use Rattle.std.specs.Prelude.{ℕ, List}
use Rattle.ospf_base.specs.Keys.{Precedes}
use Rattle.ospf_base.specs.Rising.{IsRisingBy}
use Rattle.ospf_lsa.specs.Lsa.{key_of}

-- the keys of these LSAs rise
abbrev pub IsRising : List (List ℕ) → Type 0
IsRising lsas = IsRisingBy (λ a b. Precedes (key_of a) (key_of b)) lsas
