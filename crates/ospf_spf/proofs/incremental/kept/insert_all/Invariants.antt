use Rattle.std.proofs.Common.{take}
use Rattle.std.specs.List.{Contains}
use Rattle.ospf_graph.specs.Adds.{Adds}
use Rattle.ospf_graph.specs.Search.{AreEdgesInOrder}
use Rattle.ospf_spf.proofs.incremental.kept.insert_all.Given as goal

abbrev pub invariant-loop-edge : goal.invariant-loop-edge
invariant-loop-edge l =
    record {
      in_order : AreEdgesInOrder l.edges.items;
      members : Adds (Contains (take l.edge-index l.more)) l.initial.edges.items l.edges.items;
    }
