-- How many routes a failure changes in the tables of all routers.
use Rattle.std.specs.Prelude.{◌<◌, ◌+◌, ◌*◌, ◌^◌, ℕ, Bool, true, false, List, [], ◌∷◌, ◌++◌, codes, decimal, if◌then◌else◌}
use Rattle.ospf_whatif.specs.Name.{area_failure_text}
use Rattle.ospf_whatif.specs.declared.effect.RouteChange.{RouteChange}
use Rattle.ospf_whatif.specs.declared.failure.AreaFailure.{AreaFailure}
use Rattle.ospf_table.specs.Changes.{totals_of}
use Rattle.ospf_table.specs.declared.sums.Sums.{Sums}

-- the sums, and the line of a failure
abbrev pub sums_text : Sums → List ℕ
sums_text s =
    codes "cut " ++ decimal s.cut ++ codes " gone " ++ decimal s.gone ++ codes " cost "
    ++ decimal s.cost ++ codes " hops " ++ decimal s.hops ++ codes " routers "
    ++ decimal s.routers

-- the line of a failure with its sums
abbrev pub sums_line : AreaFailure → Sums → List ℕ
sums_line failure s = area_failure_text failure ++ codes " " ++ sums_text s ++ codes "\n"

-- something changes
abbrev pub has_changes : List RouteChange → Bool
has_changes [] = false
has_changes (change ∷ changes) = true

-- one, or none
abbrev pub one_if : Bool → ℕ
one_if b = if b then 1 else 0

-- with the changes at one router more
abbrev pub sums_plus : Sums → List RouteChange → Sums
sums_plus s changes = record {
  cut = s.cut + (totals_of changes).cut;
  gone = s.gone + (totals_of changes).gone;
  cost = s.cost + (totals_of changes).cost;
  hops = s.hops + (totals_of changes).hops;
  routers = s.routers + one_if (has_changes changes);
}

-- so many more can be added
pub record HasSumRoom (n : ℕ) (s : Sums) : Type 0 where
  pub cut : s.cut + 2 ^ 64 * n < 2 ^ 128
  pub gone : s.gone + 2 ^ 64 * n < 2 ^ 128
  pub cost : s.cost + 2 ^ 64 * n < 2 ^ 128
  pub hops : s.hops + 2 ^ 64 * n < 2 ^ 128
  pub routers : s.routers + n < 2 ^ 64
