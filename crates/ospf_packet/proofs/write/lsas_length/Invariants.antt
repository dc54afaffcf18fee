use Rattle.std.proofs.Common.{◌≡◌, ◌*◌, ◌≤◌, length, take}
use Rattle.ospf_packet.specs.Slices.{lsas_bytes}
use Rattle.ospf_packet.proofs.write.lsas_length.Given as goal

abbrev pub invariant-loop-lsa : goal.invariant-loop-lsa
invariant-loop-lsa l = record {
  counted : l.total ≡ length (lsas_bytes (take l.lsa-index l.lsas));
  long : 20 * l.lsa-index ≤ l.total;
  small : l.total ≤ 16356;
}
