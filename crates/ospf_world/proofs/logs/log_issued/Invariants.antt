use Rattle.std.proofs.Common.{◌≡◌, ◌++◌, map}
use Rattle.ospf_world.specs.Logs.{issued_in}
use Rattle.ospf_world.proofs.logs.log_issued.Given as goal

abbrev pub invariant-loop-lsa : goal.invariant-loop-lsa
invariant-loop-lsa l = l.log.items ≡ l.initial.log.items ++ map (issued_in l.first l.later) l.yielded
