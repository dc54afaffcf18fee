use Rattle.std.proofs.Common.{◌≡◌}
use Rattle.ospf_drive.proofs.udp.sockets.Sockets.next_arrival.Given as goal

-- no tick was taken
abbrev pub invariant-loop : goal.invariant-loop
invariant-loop g l = record {
  taken : l.self.ticks.taken ≡ l.fn.self.ticks.taken;
  most : l.self.ticks.most ≡ l.fn.self.ticks.most;
  ending : l.self.ticks.ending ≡ l.fn.self.ticks.ending;
}
