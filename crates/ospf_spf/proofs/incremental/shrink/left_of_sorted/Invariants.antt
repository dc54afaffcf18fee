use Rattle.std.proofs.Common.{take}
use Rattle.ospf_graph.specs.Search.{AreEdgesInOrder}
use Rattle.ospf_spf.specs.IncrementalSpf.Shrinking.{TakesEdges}
use Rattle.ospf_spf.proofs.incremental.shrink.left_of_sorted.Given as goal

abbrev pub invariant-loop-edge : goal.invariant-loop-edge
invariant-loop-edge l =
    record {
      in_order : AreEdgesInOrder l.left.items;
      members : TakesEdges l.less (take l.edge-index l.edges) l.left.items;
    }
