use Rattle.std.proofs.Common.{◌≡◌, map, take}
use Rattle.ospf_change.specs.Edit.Words.{mirrored}
use Rattle.ospf_change.proofs.edit.words.all_mirrored.Given as goal

abbrev pub invariant-loop-failure : goal.invariant-loop-failure
invariant-loop-failure l = l.others.items ≡ map mirrored (take l.failure-index l.single)
