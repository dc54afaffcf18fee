-- Joins, and who is joined with whom.
use Rattle.std.specs.Prelude.{◌==◌, ◌||◌, ◌&&◌, ℕ, Bool, List, [], ◌∷◌, Contains, if◌then◌else◌}
use Rattle.std.specs.BTreeSet as sorted
use Rattle.std.specs.Ordering.{nat_cmp}
use Rattle.ospf_plan.specs.declared.joins.Join.{Join}

-- joined by a way of joins, each taken in either direction
pub data IsJoined (joins : List Join) (r : ℕ) : ℕ → Type 0 where
  itself : IsJoined joins r r
  forth : (j : Join) → Contains joins j → IsJoined joins r j.one → IsJoined joins r j.other
  back : (j : Join) → Contains joins j → IsJoined joins r j.other → IsJoined joins r j.one

-- ---- how it is found

-- what a set has
abbrev pub set_has : sorted.BTreeSet ℕ → ℕ → Bool
set_has s q = sorted.contains nat_cmp s q

-- an end of the join is reached
abbrev pub touches : (ℕ → Bool) → Join → Bool
touches s j = s j.one || s j.other

-- what is reached after the join
abbrev pub marked_by : (ℕ → Bool) → Join → ℕ → Bool
marked_by s j q = s q || (touches s j && ((j.one == q) || (j.other == q)))

-- what is reached after the joins, one after the other
abbrev pub reached_after : (ℕ → Bool) → List Join → ℕ → Bool
reached_after s [] q = s q
reached_after s (j ∷ js) q = reached_after (marked_by s j) js q

-- the joins that are not reached
abbrev pub left : (ℕ → Bool) → List Join → List Join
left s [] = []
left s (j ∷ js) = if touches s j then left (marked_by s j) js else j ∷ left (marked_by s j) js
