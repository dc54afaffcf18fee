use Rattle.ospf_files.proofs.Written.{piece_begun, piece_written, whatever}
use Rattle.ospf_views.specs.Shown.{listed_line}
use Rattle.ospf_views.proofs.views.write_listed.Goals as goal

pub loop-lsa-preserved : goal.loop-lsa-preserved
loop-lsa-preserved g c =
    piece_written listed_line _ _ _ _ _ _ c.loop-lsa-test.true c.lsa-item.is c.loop-lsa.invariant c.in_ok-write_lsa.ensures.written

pub returns-in_err-write_lsa-clause-begun : goal.returns-in_err-write_lsa-clause-begun
returns-in_err-write_lsa-clause-begun g c =
    whatever _ (piece_begun listed_line _ _ _ _ _ _ c.loop-lsa-test.true c.lsa-item.is c.loop-lsa.invariant c.in_err-write_lsa.ensures.begun)
