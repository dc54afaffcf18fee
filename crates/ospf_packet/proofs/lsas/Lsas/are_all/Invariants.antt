use Rattle.std.proofs.Common.{◌-◌}
use Rattle.std.specs.Prelude.{◌↔◌}
use Rattle.ospf_packet.specs.Slices.{AreSlices}
use Rattle.ospf_packet.proofs.lsas.Lsas.are_all.Given as goal

abbrev pub invariant-loop : goal.invariant-loop
invariant-loop l = AreSlices (l.count - l.counter) l.rest ↔ AreSlices l.count l.bytes
