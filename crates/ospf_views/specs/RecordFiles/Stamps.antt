-- Ticks that are read one after another.
use Rattle.std.specs.Prelude.{◌≡◌, ◌≤◌, ℕ, List, length, take, count_by, take_while}
use Rattle.std.specs.BTreeMap as tree
use Rattle.std.specs.List.{AllByRecursion}
use Rattle.ospf_views.specs.RecordFiles.Captures.{is_by, is_tick_of}
use Rattle.ospf_views.specs.RecordFiles.Counts.{capped, count_in}
use Rattle.ospf_world.specs.declared.ticks.Ticked.{Ticked}

-- the first so many ticks, which came by the datagram of this number, are counted by their routers
pub record AreTicksRead (ticks : List Ticked) (number read : ℕ) (clocks : tree.BTreeMap ℕ ℕ)
    : Type 0 where
  pub within : read ≤ length ticks
  pub came : AllByRecursion (λ t. t.sent ≤ number) (take read ticks)
  pub counts : (r : ℕ) → count_in clocks r ≡ capped (count_by (is_tick_of r) (take read ticks))

-- and they are all that did
pub record IsReadTo (ticks : List Ticked) (number read : ℕ) (clocks : tree.BTreeMap ℕ ℕ)
    : Type 0 where
  pub is : AreTicksRead ticks number read clocks
  pub all : take_while (is_by number) ticks ≡ take read ticks
