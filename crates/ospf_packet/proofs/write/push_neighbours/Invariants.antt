use Rattle.std.proofs.Common.{◌≡◌, ◌≤◌, ◌++◌, take, vec_capacity}
use Rattle.std.specs.List.{flat_map, AllByRecursion}
use Rattle.ospf_lsa.specs.Attached.{router_bytes, RouterFits}
use Rattle.ospf_packet.proofs.write.push_neighbours.Given as goal

abbrev pub invariant-loop-router : goal.invariant-loop-router
invariant-loop-router l = record {
  bytes : l.out.items ≡ l.fn.out.items ++ flat_map router_bytes (take l.router-index l.routers);
  capacity : vec_capacity l.fn.out ≤ vec_capacity l.out;
  fit : AllByRecursion RouterFits (take l.router-index l.routers);
}
