use Rattle.std.proofs.Common.{◌≡◌, take}
use Rattle.std.specs.List.{sum_by}
use Rattle.ospf_fib.specs.PrefixIndex.Room.{hops_put}
use Rattle.ospf_fib.proofs.index.counts.count_hops_put.Given as goal

-- the hops of the changes so far are counted
abbrev pub invariant-loop-change : goal.invariant-loop-change
invariant-loop-change l = l.hops ≡ sum_by hops_put (take l.change-index l.changes)
