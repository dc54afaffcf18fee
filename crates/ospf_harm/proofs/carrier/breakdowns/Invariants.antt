use Rattle.std.proofs.Common.{◌≡◌, All, map, take}
use Rattle.ospf_harm.specs.Carrier.{together}
use Rattle.ospf_harm.proofs.carrier.breakdowns.Given as goal

abbrev pub invariant-loop-failure : goal.invariant-loop-failure
invariant-loop-failure l = record {
  failures : map (λ b. b.failure) l.all.items ≡ take l.failure-index l.failures;
  together : All (λ b. b.parts.items ≡ together l.carrier l.single b.failure) l.all.items;
}
