use Rattle.std.proofs.Common.{take}
use Rattle.ospf_whatif.specs.Single.{IsLongestOf, IsSharedIn}
use Rattle.ospf_whatif.proofs.failures.longest_of.Given as goal

abbrev pub invariant-loop-end : goal.invariant-loop-end
invariant-loop-end l = IsLongestOf (IsSharedIn (take l.end-index l.near) l.far l.back l.address l.a l.b) l.longest
