use Rattle.std.proofs.Common.{take}
use Rattle.std.specs.Fmt.{HasWritten, IsPlainFormatter}
use Rattle.std.specs.List.{flat_map}
use Rattle.ospf_views.specs.Waits.{neighbour_why}
use Rattle.ospf_views.proofs.waits.write_neighbours.Given as goal

-- the neighbours so far are written
abbrev pub invariant-loop-neighbour : goal.invariant-loop-neighbour
invariant-loop-neighbour g l =
    IsPlainFormatter l.fn.f → HasWritten g.W.Write.write_str_gives l.fn.f (flat_map (neighbour_why l.link l.iface) (take l.neighbour-index l.neighbours)) l.f
