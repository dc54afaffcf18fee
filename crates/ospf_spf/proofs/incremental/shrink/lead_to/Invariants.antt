use Rattle.std.proofs.Common.{take}
use Rattle.std.specs.List.{All}
use Rattle.ospf_spf.specs.IncrementalSpf.Shrinking.{LeadsTo}
use Rattle.ospf_spf.proofs.incremental.shrink.lead_to.Given as goal

abbrev pub invariant-loop-edge : goal.invariant-loop-edge
invariant-loop-edge l = All (LeadsTo l.gone l.found) (take l.edge-index l.some)
