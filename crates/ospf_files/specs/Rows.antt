-- How places are found and gathered: rows of keys with their faults,
-- and lists that grow at their end.
use Rattle.std.specs.Prelude.{◌≡◌, Bool, List, ◌++◌, MatchOption}
use Rattle.toml.specs.Data.{Members}
use Rattle.ospf_files.specs.declared.explained.Explained.{Explained}
use Rattle.ospf_config.specs.declared.fault.ConfigFault.{ConfigFault}
use Rattle.ospf_files.specs.declared.rows.Row.{Row}
use Rattle.ospf_files.specs.Explained.{KnownKey, KeyHas, key_name, wanted_at}

-- the row is that of the key: its name, the fault that it has in this table, and what belongs there
pub record IsRowOf (rfc3021 : Bool) (t : Members) (k : KnownKey) (row : Row) : Type 0 where
  pub key_is : row.key.now ≡ key_name k
  pub wanted_is : row.wanted.now ≡ wanted_at k
  pub fault_is : MatchOption row.fault ((f : ConfigFault) → KeyHas rfc3021 t f k → ⊥)
      (λ f. KeyHas rfc3021 t f k)

-- the new list is the old one, followed by places of which this holds
pub record AddsRows (Are : List Explained → Type 0) (old new : List Explained) : Type 0 where
  pub more : List Explained
  pub added : new ≡ old ++ more
  pub are : Are more
