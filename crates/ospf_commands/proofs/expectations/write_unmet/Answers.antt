use Rattle.ospf_files.proofs.Cut.{err_then}
use Rattle.ospf_files.proofs.Written.{front_begun, rest_begun, whatever}
use Rattle.ospf_commands.specs.Expectations.{standing_lines, wanted_line}
use Rattle.ospf_commands.proofs.expectations.write_unmet.Goals as goal

pub returns-in_err-write_line-clause-begun : goal.returns-in_err-write_line-clause-begun
returns-in_err-write_line-clause-begun g c =
    whatever _ (front_begun _ _ (wanted_line c.args.id c.args.wanted.now) (standing_lines c.args.wanted.now c.args.router.now) c.in_err-write_line.ensures.begun)

pub returns-clause-begun : goal.returns-clause-begun
returns-clause-begun g c =
    err_then c.write_standing.result
    (λ begun. rest_begun _ _ _ (wanted_line c.args.id c.args.wanted.now) (standing_lines c.args.wanted.now c.args.router.now) c.in_ok-write_line.ensures.written begun)
    c.write_standing.ensures.begun
