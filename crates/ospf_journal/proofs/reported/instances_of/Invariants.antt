use Rattle.std.proofs.Common.{◌≡◌, map, take}
use Rattle.ospf_lsa.specs.Lsa.{instance_of}
use Rattle.ospf_journal.proofs.reported.instances_of.Given as goal

abbrev pub invariant-loop-lsa : goal.invariant-loop-lsa
invariant-loop-lsa l = l.instances.items ≡ map instance_of (take l.lsa-index l.lsas)
