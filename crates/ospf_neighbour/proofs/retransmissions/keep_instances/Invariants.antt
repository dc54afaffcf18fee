use Rattle.std.proofs.Common.{take}
use Rattle.std.specs.HashMap.{get}
use Rattle.ospf_neighbour.specs.Lists.{TellsInstances, key_eq}
use Rattle.ospf_neighbour.proofs.retransmissions.keep_instances.Given as goal

-- the instances so far are kept
abbrev pub invariant-loop-listed : goal.invariant-loop-listed
invariant-loop-listed l = TellsInstances (get key_eq l.instances) (take l.listed-index l.entries)
