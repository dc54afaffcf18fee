use Rattle.std.proofs.Common.{take}
use Rattle.ospf_spf.specs.IncrementalSpf.Growth.{OffersIn}
use Rattle.ospf_spf.proofs.incremental.grow.offer_all.Given as goal

abbrev pub invariant-loop-edge : goal.invariant-loop-edge
invariant-loop-edge l = OffersIn l.found (take l.edge-index l.some) l.initial.waits l.waits
