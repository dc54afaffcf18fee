use Rattle.std.proofs.Common.{take}
use Rattle.std.specs.Prelude.{flat_map}
use Rattle.std.specs.Io.KnownBytes.{Appends}
use Rattle.ospf_views.specs.Shown.{neighbour_line}
use Rattle.ospf_views.proofs.views.write_link.Given as goal

-- the neighbours so far are written
abbrev pub invariant-loop-neighbour : goal.invariant-loop-neighbour
invariant-loop-neighbour g l = Appends (g.O.Write.contents l.fn.out) (g.O.Write.contents l.out) (flat_map (neighbour_line l.link) (take l.neighbour-index l.neighbours))
