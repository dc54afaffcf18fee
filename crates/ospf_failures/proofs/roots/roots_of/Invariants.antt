use Rattle.std.proofs.Common.{◌≡◌, take}
use Rattle.ospf_failures.specs.Overall.{roots_in}
use Rattle.ospf_failures.proofs.roots.roots_of.Given as goal

-- the routers so far
abbrev pub invariant-loop-failure : goal.invariant-loop-failure
invariant-loop-failure l = l.roots.items ≡ roots_in (take l.failure-index l.failures)
