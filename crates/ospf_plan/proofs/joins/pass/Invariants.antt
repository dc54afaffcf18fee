use Rattle.std.proofs.Common.{◌≡◌, ◌++◌, ℕ, drop}
use Rattle.ospf_plan.specs.Joins.{reached_after, set_has, left}
use Rattle.ospf_plan.proofs.joins.pass.Given as goal

abbrev pub invariant-loop-join : goal.invariant-loop-join
invariant-loop-join l =
    ((q : ℕ) → reached_after (set_has l.reached) (drop l.join-index l.joins) q ≡ reached_after (set_has l.initial.reached) l.joins q)
    × (l.rest.items ++ left (set_has l.reached) (drop l.join-index l.joins) ≡ left (set_has l.initial.reached) l.joins)
