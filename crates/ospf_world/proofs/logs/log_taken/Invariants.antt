use Rattle.std.proofs.Common.{◌≡◌, ◌++◌, map, take}
use Rattle.ospf_world.specs.Logs.{held_by}
use Rattle.ospf_world.proofs.logs.log_taken.Given as goal

abbrev pub invariant-loop-instance : goal.invariant-loop-instance
invariant-loop-instance l = l.log.items ≡ l.initial.log.items ++ map (held_by l.router) (take l.instance-index l.taken)
