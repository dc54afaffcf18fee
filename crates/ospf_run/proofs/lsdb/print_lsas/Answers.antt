use Rattle.ospf_files.proofs.Written.{piece_begun, piece_written, whatever}
use Rattle.ospf_run.specs.Printed.{lsdb_line}
use Rattle.ospf_run.proofs.lsdb.print_lsas.Goals as goal

pub loop-lsa-preserved : goal.loop-lsa-preserved
loop-lsa-preserved g c =
    piece_written lsdb_line _ _ _ _ _ _ c.loop-lsa-test.true c.lsa-item.is c.loop-lsa.invariant c.in_ok-print_lsa.ensures.printed

pub returns-in_err-print_lsa-clause-begun : goal.returns-in_err-print_lsa-clause-begun
returns-in_err-print_lsa-clause-begun g c =
    whatever _ (piece_begun lsdb_line _ _ _ _ _ _ c.loop-lsa-test.true c.lsa-item.is c.loop-lsa.invariant c.in_err-print_lsa.ensures.begun)
