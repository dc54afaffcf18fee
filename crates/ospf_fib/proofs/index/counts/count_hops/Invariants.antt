use Rattle.std.proofs.Common.{◌≡◌, take}
use Rattle.ospf_fib.specs.PrefixIndex.Room.{hops_in}
use Rattle.ospf_fib.proofs.index.counts.count_hops.Given as goal

-- the hops of the routes so far are counted
abbrev pub invariant-loop-route : goal.invariant-loop-route
invariant-loop-route l = l.hops ≡ hops_in (take l.route-index l.routes)
