use Rattle.std.proofs.Common.{take}
use Rattle.ospf_spf.specs.IncrementalSpf.Shrinking.{OpensIn}
use Rattle.ospf_spf.proofs.incremental.shrink.offer_to.Given as goal

abbrev pub invariant-loop-edge : goal.invariant-loop-edge
invariant-loop-edge l = OpensIn l.gone (take l.edge-index l.some) l.found l.initial.waits l.waits
