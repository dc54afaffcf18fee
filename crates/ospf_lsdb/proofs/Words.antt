-- A part of a definition of specs/ by a name of its own, for the proofs.
use Rattle.std.specs.Prelude.{List}
use Rattle.ospf_base.specs.Keys.{Precedes}
use Rattle.ospf_base.specs.Rising.{IsRisingBy}
use Rattle.ospf_lsdb.specs.Database.{Held, key_at}

-- the keys of these entries rise
abbrev pub AreKeysRising : List Held → Type 0
AreKeysRising db = IsRisingBy (λ a b. Precedes (key_at a) (key_at b)) db
