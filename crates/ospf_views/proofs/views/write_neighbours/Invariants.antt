use Rattle.std.specs.Io.KnownBytes.{Appends}
use Rattle.ospf_views.specs.Shown.{links_lines}
use Rattle.ospf_views.proofs.views.write_neighbours.Given as goal

-- the neighbours of the links so far are written
abbrev pub invariant-loop-link : goal.invariant-loop-link
invariant-loop-link g l = Appends (g.O.Write.contents l.fn.out) (g.O.Write.contents l.out) (links_lines l.link l.router.area)
