use Rattle.std.proofs.Common.{◌≡◌, ◌++◌, take}
use Rattle.std.specs.List.{flat_map}
use Rattle.ospf_journal.specs.Changes.{gone_change}
use Rattle.ospf_journal.proofs.told.push_gone.Given as goal

abbrev pub invariant-loop-neighbour : goal.invariant-loop-neighbour
invariant-loop-neighbour l = l.changes.items ≡ l.initial.changes.items ++ flat_map (gone_change l.link l.now) (take l.neighbour-index l.before)
