use Rattle.std.proofs.Common.{take}
use Rattle.std.specs.List.{Contains}
use Rattle.ospf_graph.specs.declared.graph.Edge.{Edge}
use Rattle.ospf_graph.specs.declared.graph.Vertex.{Vertex}
use Rattle.ospf_spf.proofs.incremental.left.add_far_ends.Given as goal

abbrev pub invariant-loop-edge : goal.invariant-loop-edge
invariant-loop-edge l = record {
  kept : (v : Vertex) → Contains l.initial.far.items v → Contains l.far.items v;
  added : (e : Edge) → Contains (take l.edge-index l.some) e → Contains l.far.items e.to;
}
