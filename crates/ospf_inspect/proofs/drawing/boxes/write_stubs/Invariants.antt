use Rattle.std.proofs.Common.{◌≡◌, ◌++◌}
use Rattle.std.specs.Fmt.{HasWritten, IsPlainFormatter}
use Rattle.ospf_inspect.specs.AreaDrawing.Graph.{stub_texts}
use Rattle.ospf_inspect.proofs.drawing.boxes.write_stubs.Given as goal

-- the links so far are written
abbrev pub invariant-loop-link : goal.invariant-loop-link
invariant-loop-link g l = record {
  walked : l.fn.links ≡ l.yielded ++ l.link-iterator;
  written : IsPlainFormatter l.fn.f → HasWritten g.W.Write.write_str_gives l.fn.f (stub_texts l.yielded) l.f;
}
