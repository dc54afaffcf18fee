use Rattle.std.proofs.Common.{◌≡◌, ◌≤◌, ◌++◌, take, vec_capacity}
use Rattle.std.specs.List.{flat_map, AllByRecursion}
use Rattle.ospf_packet.specs.Headers.{aged_bytes, AgedFits}
use Rattle.ospf_packet.proofs.write.push_headers.Given as goal

abbrev pub invariant-loop-header : goal.invariant-loop-header
invariant-loop-header l = record {
  bytes : l.out.items ≡ l.fn.out.items ++ flat_map aged_bytes (take l.header-index l.headers);
  capacity : vec_capacity l.fn.out ≤ vec_capacity l.out;
  fit : AllByRecursion AgedFits (take l.header-index l.headers);
}
