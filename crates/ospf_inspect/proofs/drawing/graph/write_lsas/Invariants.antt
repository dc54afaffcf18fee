use Rattle.std.proofs.Common.{take}
use Rattle.std.specs.Fmt.{HasWritten, IsPlainFormatter}
use Rattle.std.specs.List.{flat_map}
use Rattle.ospf_inspect.specs.AreaDrawing.Graph.{lsa_lines}
use Rattle.ospf_inspect.proofs.drawing.graph.write_lsas.Given as goal

-- the LSAs so far are written
abbrev pub invariant-loop-lsa : goal.invariant-loop-lsa
invariant-loop-lsa g l =
    IsPlainFormatter l.fn.f → HasWritten g.W.Write.write_str_gives l.fn.f (flat_map (lsa_lines l.listing) (take l.lsa-index l.lsas)) l.f
