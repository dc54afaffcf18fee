use Rattle.std.proofs.Common.{take}
use Rattle.ospf_spf.specs.IncrementalSpf.Left.{AddsEdgesTo}
use Rattle.ospf_spf.proofs.incremental.left.add_edges_to.Given as goal

abbrev pub invariant-loop-edge : goal.invariant-loop-edge
invariant-loop-edge l = AddsEdgesTo (take l.edge-index l.some) l.less l.gone l.initial.ends.items l.ends.items
