use Rattle.std.proofs.Common.{◌≡◌, ◌++◌, take}
use Rattle.std.specs.List.{flat_map}
use Rattle.ospf_notes.specs.LsaChanges.{left_change}
use Rattle.ospf_notes.proofs.lsa_changes.push_left.Given as goal

abbrev pub invariant-loop-lsa : goal.invariant-loop-lsa
invariant-loop-lsa l = l.changes.items ≡ l.initial.changes.items ++ flat_map (left_change l.own l.taken l.now) (take l.lsa-index l.before)
