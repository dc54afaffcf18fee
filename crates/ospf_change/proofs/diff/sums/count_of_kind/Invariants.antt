use Rattle.std.proofs.Common.{◌≡◌, take}
use Rattle.ospf_change.specs.Diff.Sums.{count_of_kind}
use Rattle.ospf_change.proofs.diff.sums.count_of_kind.Given as goal

-- the count of the differences so far
abbrev pub invariant-loop-difference : goal.invariant-loop-difference
invariant-loop-difference l = l.count ≡ count_of_kind l.kind (take l.difference-index l.found)
