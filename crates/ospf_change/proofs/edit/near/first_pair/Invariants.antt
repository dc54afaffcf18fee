use Rattle.std.proofs.Common.{take}
use Rattle.std.specs.List.{Contains}
use Rattle.ospf_change.specs.Edit.Words.{IsPairWord}
use Rattle.ospf_whatif.specs.declared.failure.AreaFailure.{AreaFailure}
use Rattle.ospf_change.proofs.edit.near.first_pair.Given as goal

-- none before is a link in the subnet
abbrev pub invariant-loop-failure : goal.invariant-loop-failure
invariant-loop-failure l = (failure : AreaFailure) → Contains (take l.failure-index l.single) failure → IsPairWord l.word failure → ⊥
