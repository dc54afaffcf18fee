use Rattle.std.proofs.Common.{◌≡◌, take}
use Rattle.std.specs.List.{Contains}
use Rattle.ospf_change.specs.Edit.Words.{IsPairWord}
use Rattle.ospf_whatif.specs.declared.failure.AreaFailure.{AreaFailure}
use Rattle.ospf_change.proofs.edit.near.is_alone.Given as goal

-- no other before is a link in the subnet
abbrev pub invariant-loop-failure : goal.invariant-loop-failure
invariant-loop-failure l = (other : AreaFailure) → Contains (take l.failure-index l.single) other → IsPairWord l.word other → other ≡ l.first
