-- The walk over a database, from the stored entries without their keys.
use Rattle.std.proofs.Common.{◌≡◌, ℕ, List, [], ◌∷◌, map, refl, ap}
use Rattle.std.specs.List.{AllByRecursion}
use Rattle.std.specs.Map.{values_of}
use Rattle.ospf_base.specs.declared.ids.LsaKey.{LsaKey}
use Rattle.ospf_lsdb.specs.Database.{Entry}
use Rattle.ospf_lsdb.specs.Entries.{entry_now, AgeFits}
use Rattle.ospf_lsdb.specs.declared.moments.AgeDue.{AgeDue}
use Rattle.ospf_lsdb.specs.declared.dated.Stored.{Stored}
use Rattle.ospf_lsdb.specs.Timers.{held_at, IsStored}

-- no stored entry is older than MaxAge
pub young_values : (clock : ℕ) (es : List (LsaKey × Stored)) → AllByRecursion (IsStored clock) es → AllByRecursion (AgeFits clock) (values_of es)
young_values clock [] all = tt
young_values clock (e ∷ es) all = (all.0.1, young_values clock es all.1)

-- the entries as they are lent
pub map_values : (clock : ℕ) (due : List AgeDue) (es : List (LsaKey × Stored)) → map (entry_now clock) (values_of es) ≡ map (λ h. h.entry) (map (held_at clock due) es)
map_values clock due [] = refl
map_values clock due (e ∷ es) = ap (λ (t : List Entry). entry_now clock e.1 ∷ t) (map_values clock due es)
