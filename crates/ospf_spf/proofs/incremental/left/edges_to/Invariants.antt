use Rattle.std.proofs.Common.{take}
use Rattle.ospf_spf.proofs.IncrementalSpf.LeftLemmas.{AreBetween}
use Rattle.ospf_spf.proofs.incremental.left.edges_to.Given as goal

abbrev pub invariant-loop-vertex : goal.invariant-loop-vertex
invariant-loop-vertex l = AreBetween l.edges l.less (take l.vertex-index l.vertex-items) l.gone l.ends.items
