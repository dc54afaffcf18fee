use Rattle.std.proofs.Common.{◌≡◌, ◌++◌, map, take, drop}
use Rattle.ospf_adjacency.specs.LinkSteps.Parts.{link_timed}
use Rattle.ospf_adjacency.proofs.link_steps.ticks.count_timers.Given as goal

abbrev pub invariant-loop-link : goal.invariant-loop-link
invariant-loop-link l = l.links ≡ map link_timed (take l.link-index l.initial.links) ++ drop l.link-index l.initial.links
