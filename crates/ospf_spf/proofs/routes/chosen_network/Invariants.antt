use Rattle.std.proofs.Common.{take}
use Rattle.ospf_spf.specs.Reach.{IsLargestOf}
use Rattle.ospf_spf.proofs.routes.chosen_network.Given as goal

abbrev pub invariant-loop-reach : goal.invariant-loop-reach
invariant-loop-reach l = IsLargestOf (take l.reach-index l.reaches) l.prefix l.cost l.largest
