use Rattle.std.proofs.Common.{◌≡◌, All, map, take}
use Rattle.ospf_spf.specs.Changes.{prefix_of}
use Rattle.ospf_change.specs.Diff.Difference.{IsDifference, prefix_at}
use Rattle.ospf_change.proofs.diff.difference.differences.Given as goal

-- the differences of the changes so far
abbrev pub invariant-loop-change : goal.invariant-loop-change
invariant-loop-change l = record {
  prefixes : map prefix_at l.found.items ≡ map prefix_of (take l.change-index l.change-items);
  sound : All (IsDifference l.before l.after) l.found.items;
}
