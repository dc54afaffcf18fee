use Rattle.std.proofs.Common.{◌≡◌, ◌++◌, ◌∙◌, subst}
use Rattle.std.specs.Io.KnownBytes.{Appends}
use Rattle.ospf_files.proofs.Cut.{for_memory}
use Rattle.ospf_files.proofs.Written.{both_written, front_begun, kept_written, rest_begun, whatever, whole_begun}
use Rattle.ospf_files.specs.Streams.{IsBegun, IsOutputCut, no_room}
use Rattle.ospf_fib.specs.PrefixIndex.Known.{Table}
use Rattle.ospf_run.specs.Printed.{at_tick_line}
use Rattle.ospf_files.specs.Shown.{routes_text}
use Rattle.ospf_run.proofs.at_tick.print_at_tick.Goals as goal

pub returns-in_err-line-clause-cut : goal.returns-in_err-line-clause-cut
returns-in_err-line-clause-cut g c = for_memory c.from_residual.result (IsOutputCut c.args.streams.now) c.from_residual.ensures.1 no_room

pub returns-in_err-write-clause-begun : goal.returns-in_err-write-clause-begun
returns-in_err-write-clause-begun g c =
    let shown : c.deref.result.now ≡ at_tick_line c.args.id c.args.tick = c.deref.ensures ∙ c.in_ok-line.ensures in
    whatever _ (front_begun _ _ (at_tick_line c.args.id c.args.tick) (routes_text c.args.router.now.table)
    (subst (IsBegun (g.O.Write.contents c.args.out.now) (g.O.Write.contents c.write.new.out)) shown c.in_err-write.ensures.begun))

pub returns-in_err-print_routes-clause-begun : goal.returns-in_err-print_routes-clause-begun
returns-in_err-print_routes-clause-begun g c =
    let shown : c.deref.result.now ≡ at_tick_line c.args.id c.args.tick = c.deref.ensures ∙ c.in_ok-line.ensures in
    let routes : c.routes.result.now ≡ c.args.router.now.table = c.routes.ensures.routes ∙ c.table.ensures in
    let written = subst (Appends (g.O.Write.contents c.args.out.now) (g.O.Write.contents c.write.new.out)) shown c.in_ok-write.ensures.written in
    whatever _ (rest_begun _ _ _ (at_tick_line c.args.id c.args.tick) (routes_text c.args.router.now.table) written
    (subst (λ (rs : Table). IsBegun (g.O.Write.contents c.write.new.out) (g.O.Write.contents c.print_routes.new.out) (routes_text rs)) routes c.in_err-print_routes.ensures.begun))

pub returns-clause-begun : goal.returns-clause-begun
returns-clause-begun g c =
    let shown : c.deref.result.now ≡ at_tick_line c.args.id c.args.tick = c.deref.ensures ∙ c.in_ok-line.ensures in
    let routes : c.routes.result.now ≡ c.args.router.now.table = c.routes.ensures.routes ∙ c.table.ensures in
    let written = subst (Appends (g.O.Write.contents c.args.out.now) (g.O.Write.contents c.write.new.out)) shown c.in_ok-write.ensures.written in
    let printed = subst (λ (rs : Table). Appends (g.O.Write.contents c.write.new.out) (g.O.Write.contents c.print_routes.new.out) (routes_text rs)) routes c.in_ok-print_routes.ensures.printed in
    whatever _ (whole_begun _ _ (at_tick_line c.args.id c.args.tick ++ routes_text c.args.router.now.table)
    (kept_written _ _ _ (at_tick_line c.args.id c.args.tick ++ routes_text c.args.router.now.table)
    (both_written _ _ _ (at_tick_line c.args.id c.args.tick) (routes_text c.args.router.now.table) written printed) c.flush.ensures.bytes))
