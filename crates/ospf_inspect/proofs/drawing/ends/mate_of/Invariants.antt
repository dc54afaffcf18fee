use Rattle.std.proofs.Common.{◌≡◌, find}
use Rattle.ospf_lsa.specs.Lsa.{links_of}
use Rattle.ospf_inspect.specs.AreaDrawing.Graph.{is_mate, mate_of}
use Rattle.ospf_inspect.proofs.drawing.ends.mate_of.Given as goal

-- the first one is found among those that are left
abbrev pub invariant-loop-back : goal.invariant-loop-back
invariant-loop-back l =
    (goal.iterator-loop-back).can_next l.back-iterator ×
    (goal.iterator-loop-back).is_finite l.back-iterator ×
    (find (is_mate l.router.0 (links_of l.there) l.link l.mask) l.back-iterator ≡ mate_of l.router.0 (links_of l.there) l.link l.mask)
