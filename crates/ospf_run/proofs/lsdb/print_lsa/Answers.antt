use Rattle.ospf_files.specs.Streams.{IsOutputCut, no_room}
use Rattle.ospf_files.proofs.Cut.{for_memory}
use Rattle.ospf_files.proofs.Written.{nothing_begun, whatever}
use Rattle.ospf_run.proofs.lsdb.print_lsa.Goals as goal

pub returns-in_err-line-clause-begun : goal.returns-in_err-line-clause-begun
returns-in_err-line-clause-begun g c = whatever _ (nothing_begun _ _)

pub returns-in_err-line-clause-cut : goal.returns-in_err-line-clause-cut
returns-in_err-line-clause-cut g c = for_memory c.from_residual.result (IsOutputCut c.args.streams.now) c.from_residual.ensures.1 no_room
