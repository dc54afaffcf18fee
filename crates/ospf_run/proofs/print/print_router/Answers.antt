use Rattle.std.proofs.Common.{◌++◌}
use Rattle.ospf_files.proofs.Cut.{err_then}
use Rattle.ospf_files.proofs.Written.{front_begun, rest_begun, whatever}
use Rattle.ospf_run.specs.Printed.{extra_lines, looked_lines, table_lines}
use Rattle.ospf_run.proofs.print.print_router.Goals as goal

pub returns-in_err-print_table-clause-begun : goal.returns-in_err-print_table-clause-begun
returns-in_err-print_table-clause-begun g c =
    let shown = c.args.shown.now in
    whatever _ (front_begun _ _ (table_lines c.args.router shown) (looked_lines shown.looked ++ extra_lines c.args.extras.now c.args.router shown.router) c.in_err-print_table.ensures.begun)

pub returns-in_err-print_looked-clause-begun : goal.returns-in_err-print_looked-clause-begun
returns-in_err-print_looked-clause-begun g c =
    let shown = c.args.shown.now in
    whatever _ (rest_begun _ _ _ (table_lines c.args.router shown) (looked_lines shown.looked ++ extra_lines c.args.extras.now c.args.router shown.router) c.in_ok-print_table.ensures.printed
    (front_begun _ _ (looked_lines shown.looked) (extra_lines c.args.extras.now c.args.router shown.router) c.in_err-print_looked.ensures.begun))

pub returns-clause-begun : goal.returns-clause-begun
returns-clause-begun g c =
    let shown = c.args.shown.now in
    err_then c.print_extras.result (λ begun. rest_begun _ _ _ (table_lines c.args.router shown) (looked_lines shown.looked ++ extra_lines c.args.extras.now c.args.router shown.router)
    c.in_ok-print_table.ensures.printed (rest_begun _ _ _ (looked_lines shown.looked) (extra_lines c.args.extras.now c.args.router shown.router) c.in_ok-print_looked.ensures.printed begun))
    c.print_extras.ensures.begun
