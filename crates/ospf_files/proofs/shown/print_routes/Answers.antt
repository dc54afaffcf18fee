use Rattle.std.proofs.Common.{rules, ◌≡◌, subst}
use Rattle.std.specs.Io.KnownBytes.{Appends}
use Rattle.ospf_files.specs.Streams.{IsBegun, IsOutputCut, no_room}
use Rattle.ospf_files.proofs.Cut.{for_memory}
use Rattle.ospf_files.proofs.Written.{nothing_begun, piece_begun, piece_written, whatever}
use Rattle.ospf_files.specs.Shown.{route_line}
use Rattle.ospf_files.proofs.shown.print_routes.Goals as goal

pub returns-in_err-writeln-clause-begun : goal.returns-in_err-writeln-clause-begun
returns-in_err-writeln-clause-begun g c =
    whatever _ (piece_begun route_line _ _ _ _ _ _ c.loop-route-test.true c.route-item.is c.loop-route.invariant (nothing_begun _ _))

pub returns-in_err-writeln-clause-cut : goal.returns-in_err-writeln-clause-cut
returns-in_err-writeln-clause-cut g c = for_memory c.from_residual.result (IsOutputCut c.loop-route.streams) c.from_residual.ensures.1 no_room

pub returns-in_err-write-clause-begun : goal.returns-in_err-write-clause-begun
returns-in_err-write-clause-begun g c =
    let shown : c.deref.result.now ≡ route_line c.route-item.result = search (rules) in
    whatever _ (piece_begun route_line _ _ _ _ _ _ c.loop-route-test.true c.route-item.is c.loop-route.invariant
    (subst (IsBegun (g.O.Write.contents c.loop-route.out) (g.O.Write.contents c.write.new.out)) shown c.in_err-write.ensures.begun))

pub loop-route-preserved : goal.loop-route-preserved
loop-route-preserved g c =
    let shown : c.deref.result.now ≡ route_line c.route-item.result = search (rules) in
    piece_written route_line _ _ _ _ _ _ c.loop-route-test.true c.route-item.is c.loop-route.invariant
    (subst (Appends (g.O.Write.contents c.loop-route.out) (g.O.Write.contents c.write.new.out)) shown c.in_ok-write.ensures.written)
