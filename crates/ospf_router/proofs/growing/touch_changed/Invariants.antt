use Rattle.std.proofs.Common.{ℕ, take}
use Rattle.std.specs.List.{Contains}
use Rattle.ospf_base.specs.declared.prefix.Prefix.{Prefix}
use Rattle.ospf_graph.specs.EdgeLists.Listed.{advertisements_of}
use Rattle.ospf_graph.specs.Routes.{IsEnd}
use Rattle.ospf_graph.specs.declared.graph.Vertex.{Vertex}
use Rattle.ospf_router.specs.Ends.{HoldsPrefixes}
use Rattle.ospf_router.proofs.growing.touch_changed.Given as goal

abbrev pub invariant-loop-vertex : goal.invariant-loop-vertex
invariant-loop-vertex l =
    record {
      kept : HoldsPrefixes l.initial.touched.items l.touched.items;
      changed : (p : Prefix) (v : Vertex) (c : ℕ) → Contains (take l.vertex-index l.changed) v → IsEnd (advertisements_of l.listing) p v c → Contains l.touched.items p;
    }
