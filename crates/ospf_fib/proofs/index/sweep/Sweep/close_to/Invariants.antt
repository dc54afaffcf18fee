use Rattle.std.proofs.Common.{◌+◌, ◌-◌, ◌*◌, length, vec_len}
use Rattle.ospf_fib.specs.PrefixIndex.Room.{HasRoom, IsSweptTo}
use Rattle.ospf_fib.proofs.index.sweep.Sweep.close_to.Given as goal

-- each range that has ended is closed, and there is room for the others
abbrev pub invariant-loop-end : goal.invariant-loop-end
invariant-loop-end l = IsSweptTo l.routes l.begun l.self × HasRoom (2 * length l.routes + 1) l.self (length l.routes - l.begun)

abbrev pub decreases-loop-end : goal.decreases-loop-end
decreases-loop-end l = vec_len l.self.opened
