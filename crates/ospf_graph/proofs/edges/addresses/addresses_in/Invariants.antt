use Rattle.std.proofs.Common.{map, nat_eq, take}
use Rattle.std.specs.HashMap.{get}
use Rattle.ospf_graph.specs.EdgeLists.Listed.{advertisement_of}
use Rattle.ospf_graph.proofs.edges.addresses.addresses_in.Given as goal
use Rattle.ospf_graph.proofs.EdgeLists.AddressLemmas.{AreAddresses}

abbrev pub invariant-loop-lsa : goal.invariant-loop-lsa
invariant-loop-lsa l = AreAddresses (map advertisement_of (take l.lsa-index l.lsa-items)) (get nat_eq l.addresses)
