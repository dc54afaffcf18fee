use Rattle.std.proofs.Common.{◌≡◌, ◌++◌}
use Rattle.std.specs.Fmt.{HasWritten, IsPlainFormatter}
use Rattle.ospf_inspect.specs.AreaDrawing.Graph.{attached_lines}
use Rattle.ospf_inspect.proofs.drawing.edges.write_attached.Given as goal

-- the routers so far are written
abbrev pub invariant-loop-router : goal.invariant-loop-router
invariant-loop-router g l = record {
  walked : l.fn.routers ≡ l.yielded ++ l.router-iterator;
  written : IsPlainFormatter l.fn.f → HasWritten g.W.Write.write_str_gives l.fn.f (attached_lines l.fn.listing l.fn.network l.yielded) l.f;
}
