use Rattle.std.proofs.Common.{deque_len}
use Rattle.ospf_fib.proofs.PrefixIndex.ReplaceLemmas.{IsPutSoFar}
use Rattle.ospf_fib.proofs.index.replace.put_routes.Given as goal

abbrev pub invariant-loop-change : goal.invariant-loop-change
invariant-loop-change l = IsPutSoFar l.fn.table l.fn.changes.items l.left.items l.routes.items

abbrev pub decreases-loop-change : goal.decreases-loop-change
decreases-loop-change l = deque_len l.left
