use Rattle.std.proofs.Common.{◌≡◌, ◌++◌}
use Rattle.ospf_journal.specs.Changes.{ifaces_changes}
use Rattle.ospf_journal.proofs.told.push_ifaces.Given as goal

abbrev pub invariant-loop-link : goal.invariant-loop-link
invariant-loop-link l = l.changes.items ≡ l.initial.changes.items ++ ifaces_changes l.before l.now l.link
