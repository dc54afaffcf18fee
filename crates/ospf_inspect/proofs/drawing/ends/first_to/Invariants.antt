use Rattle.std.proofs.Common.{◌≡◌, find}
use Rattle.ospf_inspect.specs.AreaDrawing.Graph.{is_drawn_link_to}
use Rattle.ospf_inspect.proofs.drawing.ends.first_to.Given as goal

-- the first one is found among those that are left
abbrev pub invariant-loop-link : goal.invariant-loop-link
invariant-loop-link l =
    (goal.iterator-loop-link).can_next l.link-iterator ×
    (goal.iterator-loop-link).is_finite l.link-iterator ×
    (find (is_drawn_link_to l.to.0) l.link-iterator ≡ find (is_drawn_link_to l.to.0) l.fn.links)
