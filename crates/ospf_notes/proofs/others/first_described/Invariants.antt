use Rattle.std.proofs.Common.{◌≡◌, map}
use Rattle.ospf_notes.specs.Others.{first_refused}
use Rattle.ospf_notes.proofs.others.first_described.Given as goal

abbrev pub invariant-loop-header : goal.invariant-loop-header
invariant-loop-header l =
    (goal.iterator-loop-header).can_next l.header-iterator ×
    (goal.iterator-loop-header).is_finite l.header-iterator ×
    (first_refused l.passes_over (map (λ h. h.kind) l.header-iterator) ≡ first_refused l.passes_over (map (λ h. h.kind) l.fn.headers))
