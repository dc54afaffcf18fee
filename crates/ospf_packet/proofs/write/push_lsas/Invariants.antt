use Rattle.std.proofs.Common.{◌≡◌, ◌≤◌, ◌++◌, take, vec_capacity}
use Rattle.std.specs.List.{AllByRecursion}
use Rattle.ospf_packet.specs.Slices.{lsas_bytes, IsSlice}
use Rattle.ospf_packet.proofs.write.push_lsas.Given as goal

abbrev pub invariant-loop-lsa : goal.invariant-loop-lsa
invariant-loop-lsa l = record {
  bytes : l.out.items ≡ l.fn.out.items ++ lsas_bytes (take l.lsa-index l.lsas);
  capacity : vec_capacity l.fn.out ≤ vec_capacity l.out;
  fit : AllByRecursion IsSlice (take l.lsa-index l.lsas);
}
