-- How many routes differ, and how, at the routers of two areas.
use Rattle.std.specs.Prelude.{◌<◌, ◌+◌, ◌*◌, ◌^◌, ◌==◌, ℕ, Bool, true, false, List, [], ◌∷◌, ◌++◌, codes, count_by, decimal, if◌then◌else◌, sum_by}
use Rattle.ospf_base.specs.declared.ids.RouterId.{RouterId}
use Rattle.ospf_change.specs.declared.diff.difference.RouteDifference.{RouteDifference}
use Rattle.ospf_change.specs.declared.diff.difference.RouteDifference.TheVariants.{Gained, Longer, Lost, Rerouted, Shorter}
use Rattle.ospf_change.specs.declared.diff.sums.DifferenceKind.{DifferenceKind}
use Rattle.ospf_change.specs.declared.diff.sums.DifferenceKind.TheVariants as kind
use Rattle.ospf_change.specs.declared.diff.sums.DifferenceSums.{DifferenceSums}

-- the difference is of this kind
unfoldable pub is_difference_of : DifferenceKind → RouteDifference → Bool
is_difference_of kind.Lost (Lost old) = true
is_difference_of kind.Gained (Gained new) = true
is_difference_of kind.Longer (Longer old new) = true
is_difference_of kind.Shorter (Shorter old new) = true
is_difference_of kind.Rerouted (Rerouted old new) = true
is_difference_of k d = false

-- how many are
abbrev pub count_of_kind : DifferenceKind → List RouteDifference → ℕ
count_of_kind k found = count_by (is_difference_of k) found

-- something differs
abbrev pub is_some : List RouteDifference → Bool
is_some [] = false
is_some (d ∷ rest) = true

-- a router, and what differs in its tables
abbrev pub RouterDifferences : Type 0
RouterDifferences = RouterId × List RouteDifference

-- of each kind, over all routers; and at how many of them something differs
abbrev pub difference_sums_of : List RouterDifferences → DifferenceSums
difference_sums_of sights = record {
  lost = sum_by (λ s. count_of_kind kind.Lost s.1) sights;
  gained = sum_by (λ s. count_of_kind kind.Gained s.1) sights;
  longer = sum_by (λ s. count_of_kind kind.Longer s.1) sights;
  shorter = sum_by (λ s. count_of_kind kind.Shorter s.1) sights;
  rerouted = sum_by (λ s. count_of_kind kind.Rerouted s.1) sights;
  routers = count_by (λ s. is_some s.1) sights;
}

-- how many prefixes are reached no more, and how many were not
unfoldable pub reach_text : DifferenceSums → List ℕ
reach_text s =
    codes "routes: " ++ decimal s.lost ++ codes " lost, " ++ decimal s.gained ++ codes " gained"

-- how many are reached another way
unfoldable pub ways_text : DifferenceSums → List ℕ
ways_text s =
    codes ", " ++ decimal s.longer ++ codes " longer, " ++ decimal s.shorter
    ++ codes " shorter, " ++ decimal s.rerouted ++ codes " rerouted"

-- the last line, without its end
abbrev pub difference_sums_text : DifferenceSums → List ℕ
difference_sums_text s =
    reach_text s ++ ways_text s ++ codes ", at " ++ decimal s.routers ++ codes " routers"

-- and with it
abbrev pub difference_sums_line : DifferenceSums → List ℕ
difference_sums_line s = difference_sums_text s ++ codes "\n"

-- the status where all is compared: 1 where a route is lost
abbrev pub status_by : DifferenceSums → ℕ
status_by s = if s.lost == 0 then 0 else 1

-- ---- on the way

-- one, or none
abbrev pub count_if : Bool → ℕ
count_if b = if b then 1 else 0

-- with what differs at one router more
abbrev pub difference_sums_plus : DifferenceSums → List RouteDifference → DifferenceSums
difference_sums_plus s found = record {
  lost = s.lost + count_of_kind kind.Lost found;
  gained = s.gained + count_of_kind kind.Gained found;
  longer = s.longer + count_of_kind kind.Longer found;
  shorter = s.shorter + count_of_kind kind.Shorter found;
  rerouted = s.rerouted + count_of_kind kind.Rerouted found;
  routers = s.routers + count_if (is_some found);
}

-- so many routers more can be added
pub record HasDifferenceRoom (n : ℕ) (s : DifferenceSums) : Type 0 where
  pub lost : s.lost + 2 ^ 64 * n < 2 ^ 128
  pub gained : s.gained + 2 ^ 64 * n < 2 ^ 128
  pub longer : s.longer + 2 ^ 64 * n < 2 ^ 128
  pub shorter : s.shorter + 2 ^ 64 * n < 2 ^ 128
  pub rerouted : s.rerouted + 2 ^ 64 * n < 2 ^ 128
  pub routers : s.routers + n < 2 ^ 64
