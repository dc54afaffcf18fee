use Rattle.std.proofs.Common.{◌≡◌}
use Rattle.ospf_drive_tests.proofs.publishes.race.wait_to_learn.Given as goal

abbrev pub invariant-loop : goal.invariant-loop
invariant-loop g l = l.seat.fib ≡ g.J.Room.fib
