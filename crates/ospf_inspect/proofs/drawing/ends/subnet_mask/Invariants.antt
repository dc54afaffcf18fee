use Rattle.std.proofs.Common.{◌≡◌}
use Rattle.ospf_inspect.specs.AreaDrawing.Graph.{longest_mask, subnet_mask}
use Rattle.ospf_inspect.proofs.drawing.ends.subnet_mask.Given as goal

-- those that are left make of the mask so far what all make
abbrev pub invariant-loop-link : goal.invariant-loop-link
invariant-loop-link l =
    (goal.iterator-loop-link).can_next l.link-iterator ×
    (goal.iterator-loop-link).is_finite l.link-iterator ×
    (longest_mask l.address l.mask l.link-iterator ≡ subnet_mask l.fn.links l.address)
