use Rattle.std.proofs.Common.{◌≡◌, ◌++◌, map, take}
use Rattle.ospf_world.specs.Logs.{holdings_by}
use Rattle.ospf_world.proofs.logs.log_held.Given as goal

abbrev pub invariant-loop-lsa : goal.invariant-loop-lsa
invariant-loop-lsa l = l.log.items ≡ l.initial.log.items ++ map (holdings_by l.router) (take l.lsa-index l.issued)
