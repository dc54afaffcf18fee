use Rattle.std.proofs.Common.{◌+◌, ◌<◌, ◌≤◌, get_or, length}
use Rattle.ospf_fib.proofs.index.index.range_between.Given as goal

-- the range stands among so many from the lower one on
abbrev pub invariant-loop-count : goal.invariant-loop-count
invariant-loop-count l =
    (0 < l.count) × (l.low + l.count ≤ length l.starts) × (get_or l.starts l.low 0 ≤ l.address) × (l.low + l.count < length l.starts → l.address < get_or l.starts (l.low + l.count) 0)

abbrev pub decreases-loop-count : goal.decreases-loop-count
decreases-loop-count l = l.count
