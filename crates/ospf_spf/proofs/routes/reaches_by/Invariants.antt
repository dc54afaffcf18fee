use Rattle.std.proofs.Common.{take, ◌↔◌}
use Rattle.std.specs.List.{Contains}
use Rattle.ospf_spf.specs.Reach.{IsReachOf}
use Rattle.ospf_spf.specs.declared.routes.Reach.{Reach}
use Rattle.ospf_spf.proofs.routes.reaches_by.Given as goal

abbrev pub invariant-loop-end : goal.invariant-loop-end
invariant-loop-end g l = (r : Reach) → Contains l.reaches.items r ↔ IsReachOf (take l.end-index l.ends) (g.P.Paths.kept l.paths).settled r
