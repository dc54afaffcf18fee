use Rattle.std.proofs.Common.{◌≡◌, ◌++◌}
use Rattle.ospf_journal.specs.Changes.{links_changes}
use Rattle.ospf_journal.proofs.told.push_neighbours.Given as goal

abbrev pub invariant-loop-link : goal.invariant-loop-link
invariant-loop-link l = l.changes.items ≡ l.initial.changes.items ++ links_changes l.before l.now l.link
