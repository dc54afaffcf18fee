use Rattle.std.proofs.Common.{◌≡◌, map, take}
use Rattle.ospf_graph.specs.EdgeLists.Items.{items_of_all}
use Rattle.ospf_graph.specs.EdgeLists.Listed.{advertisement_of}
use Rattle.ospf_graph.proofs.edges.items.items_in.Given as goal

abbrev pub invariant-loop-lsa : goal.invariant-loop-lsa
invariant-loop-lsa l = l.items.items ≡ items_of_all (map advertisement_of (take l.lsa-index l.lsa-items))
