use Rattle.std.proofs.Common.{◌≤◌, length}
use Rattle.ospf_fib.proofs.index.numbering.SetNumbers.find.Given as goal

-- the sets behind this one in the chain have other hops
abbrev pub invariant-loop-link : goal.invariant-loop-link
invariant-loop-link l = l.link ≤ length l.self.sets.sets.items

abbrev pub decreases-loop-link : goal.decreases-loop-link
decreases-loop-link l = l.link
