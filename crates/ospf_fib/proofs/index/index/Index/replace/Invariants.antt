use Rattle.ospf_fib.proofs.PrefixIndex.RoutePut.{IsFollowed}
use Rattle.ospf_fib.proofs.index.index.Index.replace.Given as goal

abbrev pub invariant-loop-change : goal.invariant-loop-change
invariant-loop-change l = IsFollowed l.routes l.changes l.change-index l.initial.self l.self
