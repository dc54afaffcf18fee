use Rattle.std.proofs.Common.{◌≡◌, ◌++◌, nat_eq}
use Rattle.std.specs.HashMap.{get}
use Rattle.ospf_graph.specs.EdgeLists.Addresses.{AddsAddresses}
use Rattle.ospf_graph.proofs.edges.addresses.add_addresses.Given as goal

abbrev pub invariant-loop-link : goal.invariant-loop-link
invariant-loop-link l = record {
  walked : l.fn.links ≡ l.yielded ++ l.link-iterator;
  adds : AddsAddresses l.router l.yielded (get nat_eq l.initial.addresses) (get nat_eq l.addresses);
}
