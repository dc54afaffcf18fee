use Rattle.std.proofs.Common.{◌⊎◌, ◌<◌, vec_len}
use Rattle.ospf_plan.specs.Joins.{set_has}
use Rattle.ospf_plan.proofs.Reach.{IsClosed, IsSoFar}
use Rattle.ospf_plan.proofs.joins.joined_with.Given as goal

abbrev pub invariant-loop-before : goal.invariant-loop-before
invariant-loop-before l = IsSoFar l.joins l.one (set_has l.reached) l.rest.items × ((vec_len l.rest < l.before) ⊎ IsClosed (set_has l.reached) l.rest.items)

abbrev pub decreases-loop-before : goal.decreases-loop-before
decreases-loop-before l = l.before
