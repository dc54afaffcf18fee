use Rattle.std.proofs.Common.{take}
use Rattle.std.specs.Fmt.{HasWritten, IsPlainFormatter}
use Rattle.std.specs.List.{flat_map}
use Rattle.ospf_inspect.specs.AreaDrawing.Graph.{stopped_line}
use Rattle.ospf_inspect.proofs.drawing.graph.write_all_stopped.Given as goal

-- the routers so far are written
abbrev pub invariant-loop-router : goal.invariant-loop-router
invariant-loop-router g l =
    IsPlainFormatter l.fn.f → HasWritten g.W.Write.write_str_gives l.fn.f (flat_map stopped_line (take l.router-index l.routers)) l.f
