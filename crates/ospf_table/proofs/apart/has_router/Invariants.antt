use Rattle.std.proofs.Common.{◌≡◌, ◌==◌}
use Rattle.std.specs.List.{list_any}
use Rattle.ospf_table.proofs.apart.has_router.Given as goal

abbrev pub invariant-loop-other : goal.invariant-loop-other
invariant-loop-other l =
    (goal.iterator-loop-other).can_next l.other-iterator ×
    (goal.iterator-loop-other).is_finite l.other-iterator ×
    (list_any (λ r. r.0 == l.router.0) l.other-iterator ≡ list_any (λ r. r.0 == l.router.0) l.fn.attached)
