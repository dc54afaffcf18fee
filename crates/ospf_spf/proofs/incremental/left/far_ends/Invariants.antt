use Rattle.std.proofs.Common.{take}
use Rattle.ospf_spf.specs.IncrementalSpf.Left.{AreFarEnds}
use Rattle.ospf_spf.proofs.incremental.left.far_ends.Given as goal

abbrev pub invariant-loop-vertex : goal.invariant-loop-vertex
invariant-loop-vertex l = AreFarEnds l.edges (take l.vertex-index l.gone) l.far.items
