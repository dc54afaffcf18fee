use Rattle.std.proofs.Common.{◌≡◌, map, take}
use Rattle.ospf_sim.specs.Followed.{issued_instance}
use Rattle.ospf_sim.proofs.events.instances_of.Given as goal

abbrev pub invariant-loop-one : goal.invariant-loop-one
invariant-loop-one l = l.instances.items ≡ map issued_instance (take l.one-index l.issued)
