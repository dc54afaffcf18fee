use Rattle.std.proofs.Common.{◌≡◌, false}
use Rattle.ospf_inspect.specs.AreaDrawing.Graph.{has_one_to}
use Rattle.ospf_inspect.proofs.drawing.ends.has_one_to.Given as goal

-- those that are left say with what was found what all say
abbrev pub invariant-loop-link : goal.invariant-loop-link
invariant-loop-link l =
    (goal.iterator-loop-link).can_next l.link-iterator ×
    (goal.iterator-loop-link).is_finite l.link-iterator ×
    (has_one_to l.to.0 l.found l.link-iterator ≡ has_one_to l.to.0 false l.fn.links)
