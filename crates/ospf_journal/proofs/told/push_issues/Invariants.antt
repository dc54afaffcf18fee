use Rattle.std.proofs.Common.{◌≡◌, ◌++◌, map, take}
use Rattle.ospf_journal.specs.Changes.{issue_change}
use Rattle.ospf_journal.proofs.told.push_issues.Given as goal

abbrev pub invariant-loop-instance : goal.invariant-loop-instance
invariant-loop-instance l = l.changes.items ≡ l.initial.changes.items ++ map issue_change (take l.instance-index l.issued)
