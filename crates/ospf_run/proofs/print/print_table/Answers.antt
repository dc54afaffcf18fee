use Rattle.std.proofs.Common.{◌≡◌, ◌∙◌, subst}
use Rattle.std.specs.Io.KnownBytes.{Appends}
use Rattle.ospf_files.proofs.Cut.{err_then, for_memory}
use Rattle.ospf_files.proofs.Written.{front_begun, rest_begun, whatever}
use Rattle.ospf_files.specs.Streams.{IsBegun, IsOutputCut, no_room}
use Rattle.ospf_fib.specs.PrefixIndex.Known.{Table}
use Rattle.ospf_run.specs.Printed.{router_id_line}
use Rattle.ospf_files.specs.Shown.{routes_text}
use Rattle.ospf_run.proofs.print.print_table.Goals as goal

pub returns-in_err-line-clause-cut : goal.returns-in_err-line-clause-cut
returns-in_err-line-clause-cut g c = for_memory c.from_residual.result (IsOutputCut c.args.streams.now) c.from_residual.ensures.1 no_room

pub returns-in_err-write-clause-begun : goal.returns-in_err-write-clause-begun
returns-in_err-write-clause-begun g c =
    let shown : c.deref.result.now ≡ router_id_line c.args.router = c.deref.ensures ∙ c.in_ok-line.ensures in
    whatever _ (front_begun _ _ (router_id_line c.args.router) (routes_text c.args.shown.now.router.table)
    (subst (IsBegun (g.O.Write.contents c.args.out.now) (g.O.Write.contents c.write.new.out)) shown c.in_err-write.ensures.begun))

pub returns-clause-begun : goal.returns-clause-begun
returns-clause-begun g c =
    let shown : c.deref.result.now ≡ router_id_line c.args.router = c.deref.ensures ∙ c.in_ok-line.ensures in
    let routes : c.routes.result.now ≡ c.args.shown.now.router.table = c.routes.ensures.routes ∙ c.table.ensures in
    let written = subst (Appends (g.O.Write.contents c.args.out.now) (g.O.Write.contents c.write.new.out)) shown c.in_ok-write.ensures.written in
    err_then c.print_routes.result (λ begun. rest_begun _ _ _ (router_id_line c.args.router) (routes_text c.args.shown.now.router.table) written
    (subst (λ (rs : Table). IsBegun (g.O.Write.contents c.write.new.out) (g.O.Write.contents c.print_routes.new.out) (routes_text rs)) routes begun))
    c.print_routes.ensures.begun
