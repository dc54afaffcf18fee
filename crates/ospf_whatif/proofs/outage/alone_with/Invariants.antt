use Rattle.std.proofs.Common.{◌≡◌, ◌∷◌, take}
use Rattle.ospf_whatif.proofs.outage.alone_with.Given as goal

abbrev pub invariant-loop-failure : goal.invariant-loop-failure
invariant-loop-failure l = l.failures.items ≡ l.fn.first ∷ take l.failure-index l.rest
