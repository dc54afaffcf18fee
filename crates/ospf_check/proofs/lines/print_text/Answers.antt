use Rattle.std.proofs.Common.{ap}
use Rattle.ospf_files.specs.Streams.{no_output}
use Rattle.ospf_files.specs.declared.streams.FailedStreams.{FailedStreams}
use Rattle.ospf_check.proofs.lines.print_text.Goals as goal

pub returns-in-Err-clause-cut : goal.returns-in-Err-clause-cut
returns-in-Err-clause-cut g c = no_output (ap (λ (s : FailedStreams). s.output) c.in-Err.ensures.failed) c.in-Err.ensures.failure
