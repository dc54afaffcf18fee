use Rattle.std.proofs.Common.{◌≡◌, take}
use Rattle.std.specs.List.{Contains}
use Rattle.ospf_whatif.specs.Name.{area_failure_text}
use Rattle.ospf_whatif.specs.declared.failure.AreaFailure.{AreaFailure}
use Rattle.ospf_table.proofs.named.by_name.Given as goal

-- the word is the name of none before
abbrev pub invariant-loop-failure : goal.invariant-loop-failure
invariant-loop-failure l = (failure : AreaFailure) → Contains (take l.failure-index l.failures) failure → area_failure_text failure ≡ l.word → ⊥
