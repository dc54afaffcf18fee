use Rattle.std.proofs.Common.{[], take}
use Rattle.ospf_spf.proofs.HopLemmas.{HasHopAmong}
use Rattle.ospf_spf.specs.Reach.{GathersHops}
use Rattle.ospf_spf.proofs.routes.hops_by.Given as goal

abbrev pub invariant-loop-reach : goal.invariant-loop-reach
invariant-loop-reach g l = GathersHops (HasHopAmong l.reaches (take l.reach-index l.reaches) (g.P.Paths.kept l.paths).starts l.prefix l.cost) [] l.hops.items
