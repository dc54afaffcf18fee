use Rattle.ospf_files.proofs.Cut.{for_failure}
use Rattle.ospf_files.proofs.Written.{piece_begun, piece_written, whatever}
use Rattle.ospf_files.specs.Streams.{IsErrorCut}
use Rattle.ospf_run.specs.Printed.{outcome_told}
use Rattle.ospf_run.proofs.print.tell_outcomes.Goals as goal

pub returns-in_err-tell_outcome-clause-begun : goal.returns-in_err-tell_outcome-clause-begun
returns-in_err-tell_outcome-clause-begun g c =
    whatever _ (piece_begun outcome_told _ _ _ _ _ _ c.loop-outcome-test.true c.outcome-item.is c.loop-outcome.invariant c.in_err-tell_outcome.ensures.begun)

pub returns-in_err-tell_outcome-clause-cut : goal.returns-in_err-tell_outcome-clause-cut
returns-in_err-tell_outcome-clause-cut g c =
    for_failure c.from_residual.result c.in_err-tell_outcome.field-0.0 (IsErrorCut c.tell_outcome.new.streams) c.from_residual.ensures.1 c.in_err-tell_outcome.ensures.cut

pub loop-outcome-preserved : goal.loop-outcome-preserved
loop-outcome-preserved g c =
    piece_written outcome_told _ _ _ _ _ _ c.loop-outcome-test.true c.outcome-item.is c.loop-outcome.invariant c.in_ok-tell_outcome.ensures.told
