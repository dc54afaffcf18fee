use Rattle.std.proofs.Common.{◌≡◌}
use Rattle.ospf_drive.proofs.udp.sockets.Sockets.look.Given as goal

-- no tick was taken
abbrev pub invariant-loop-step : goal.invariant-loop-step
invariant-loop-step g l = l.self.ticks ≡ l.fn.self.ticks
