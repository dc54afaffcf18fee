use Rattle.std.proofs.Common.{take}
use Rattle.ospf_spf.specs.Reach.{GathersHops, HasHop}
use Rattle.ospf_spf.proofs.routes.add_hops_at.Given as goal

abbrev pub invariant-loop-begun : goal.invariant-loop-begun
invariant-loop-begun l = GathersHops (HasHop (take l.begun-index l.begun-items) l.fn.vertex) l.initial.hops.items l.hops.items
