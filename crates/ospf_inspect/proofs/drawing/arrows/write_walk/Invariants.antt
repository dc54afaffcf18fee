use Rattle.std.proofs.Common.{◌≡◌, ◌++◌, ℕ, List, length}
use Rattle.std.specs.Fmt.{HasWritten, IsPlainFormatter}
use Rattle.std.specs.List.{flat_map}
use Rattle.ospf_inspect.specs.AreaDrawing.Graph.{step_line, steps_of}
use Rattle.ospf_inspect.proofs.drawing.arrows.write_walk.Given as goal

-- some arrows are written, and those of the routers that are left make all of them
abbrev pub invariant-loop-from : goal.invariant-loop-from
invariant-loop-from g l =
    IsPlainFormatter l.fn.f → (done : List ℕ) × HasWritten g.W.Write.write_str_gives l.fn.f done l.f
    × (done ++ flat_map step_line (steps_of l.rest) ≡ flat_map step_line (steps_of l.walked))

abbrev pub decreases-loop-from : goal.decreases-loop-from
decreases-loop-from g l = length l.rest
