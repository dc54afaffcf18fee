use Rattle.std.proofs.Common.{rules, refl}
use Rattle.ospf_files.specs.Streams.{IsOfOutput, no_output}
use Rattle.ospf_files.proofs.streams.FailedStreams.write.Goals as goal

pub returns-in-Err-clause-cut : goal.returns-in-Err-clause-cut
returns-in-Err-clause-cut g c = let why : IsOfOutput c.of.result = search (rules) in no_output refl why
