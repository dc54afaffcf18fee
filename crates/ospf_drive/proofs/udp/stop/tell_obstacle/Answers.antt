use Rattle.ospf_files.proofs.Cut.{for_memory}
use Rattle.ospf_files.specs.Streams.{IsErrorCut, no_text}
use Rattle.ospf_drive.proofs.udp.stop.tell_obstacle.Goals as goal

pub returns-in_err-line-clause-cut : goal.returns-in_err-line-clause-cut
returns-in_err-line-clause-cut g c = for_memory c.from_residual.result (IsErrorCut c.args.streams.now) c.from_residual.ensures.1 no_text
