use Rattle.std.proofs.Common.{take}
use Rattle.std.specs.List.{Contains}
use Rattle.ospf_graph.specs.declared.graph.Edge.{Edge}
use Rattle.ospf_spf.specs.IncrementalSpf.Shrinking.{LeadsTo}
use Rattle.ospf_spf.proofs.incremental.shrink.all_lead_to.Given as goal

abbrev pub invariant-loop-vertex : goal.invariant-loop-vertex
invariant-loop-vertex l = (e : Edge) → Contains l.edges e → Contains (take l.vertex-index l.gone) e.from → LeadsTo l.gone l.found e
