use Rattle.ospf_run.specs.Lookups.{Follows}
use Rattle.ospf_run.proofs.look.look_until.Given as goal

-- the seat knows no less than it did
abbrev pub invariant-loop : goal.invariant-loop
invariant-loop g l = (goal.iterator-loop g).can_next l.iterator' × (goal.iterator-loop g).is_finite l.iterator' × Follows l.fn.seat l.seat
