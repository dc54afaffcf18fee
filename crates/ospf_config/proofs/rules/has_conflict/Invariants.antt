use Rattle.std.proofs.Common.{◌↔◌, length}
use Rattle.ospf_config.specs.Conflicts.{HasConflict}
use Rattle.ospf_config.proofs.rules.has_conflict.Given as goal

abbrev pub invariant-loop-first : goal.invariant-loop-first
invariant-loop-first l = HasConflict l.addresses ↔ HasConflict l.rest

abbrev pub decreases-loop-first : goal.decreases-loop-first
decreases-loop-first l = length l.rest
