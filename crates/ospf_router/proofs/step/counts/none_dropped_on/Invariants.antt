use Rattle.std.proofs.Common.{◌≡◌, map, take}
use Rattle.ospf_router.specs.AreaStep.Counts.{no_drops}
use Rattle.ospf_router.proofs.step.counts.none_dropped_on.Given as goal

-- none on the links so far
abbrev pub invariant-loop-link : goal.invariant-loop-link
invariant-loop-link g l = l.counts.items ≡ map (λ _. no_drops) (take l._link-index l.links)
