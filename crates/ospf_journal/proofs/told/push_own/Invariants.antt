use Rattle.std.proofs.Common.{◌≡◌, ◌++◌, take}
use Rattle.std.specs.List.{flat_map}
use Rattle.ospf_journal.specs.Changes.{own_change}
use Rattle.ospf_journal.proofs.told.push_own.Given as goal

abbrev pub invariant-loop-own : goal.invariant-loop-own
invariant-loop-own l = l.changes.items ≡ l.initial.changes.items ++ flat_map (own_change l.before) (take l.own-index l.now)
