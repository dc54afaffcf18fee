use Rattle.std.proofs.Common.{take}
use Rattle.std.specs.Io.KnownBytes.{Appends}
use Rattle.ospf_files.specs.Shown.{routes_text}
use Rattle.ospf_files.proofs.shown.print_routes.Given as goal

-- the routes so far are written
abbrev pub invariant-loop-route : goal.invariant-loop-route
invariant-loop-route g l = Appends (g.O.Write.contents l.fn.out) (g.O.Write.contents l.out) (routes_text (take l.route-index l.routes))
