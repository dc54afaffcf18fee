use Rattle.std.proofs.Common.{ap}
use Rattle.ospf_files.proofs.Cut.{cut_then, for_memory}
use Rattle.ospf_files.proofs.Written.{nothing_begun, whatever}
use Rattle.ospf_files.specs.Streams.{IsOfOutput, IsOutputCut, no_output, no_room}
use Rattle.ospf_files.specs.declared.streams.FailedStreams.{FailedStreams}
use Rattle.ospf_notes.proofs.lsa_log.write_one.Goals as goal

pub returns-in_err-text-clause-begun : goal.returns-in_err-text-clause-begun
returns-in_err-text-clause-begun g c = whatever _ (nothing_begun _ _)

pub returns-in_err-text-clause-cut : goal.returns-in_err-text-clause-cut
returns-in_err-text-clause-cut g c = for_memory c.from_residual.result (IsOutputCut c.args.streams.now) c.from_residual.ensures.1 no_room

pub returns-clause-cut : goal.returns-clause-cut
returns-clause-cut g c =
    cut_then c.print.result IsOfOutput (IsOutputCut c.print.new.self) (λ f same why. no_output (ap (λ (s : FailedStreams). s.output) same) why) c.print.ensures.failed
    c.print.ensures.failure
