use Rattle.std.proofs.Common.{◌≡◌, ◌++◌, take}
use Rattle.std.specs.List.{flat_map}
use Rattle.ospf_notes.specs.LsaChanges.{put_change}
use Rattle.ospf_notes.proofs.lsa_changes.push_put.Given as goal

abbrev pub invariant-loop-lsa : goal.invariant-loop-lsa
invariant-loop-lsa l = l.changes.items ≡ l.initial.changes.items ++ flat_map (put_change l.before) (take l.lsa-index l.now)
