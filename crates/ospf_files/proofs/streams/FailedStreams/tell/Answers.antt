use Rattle.std.proofs.Common.{rules, refl}
use Rattle.ospf_files.specs.Streams.{IsOfError, no_error}
use Rattle.ospf_files.proofs.streams.FailedStreams.tell.Goals as goal

pub returns-in-Err-clause-cut : goal.returns-in-Err-clause-cut
returns-in-Err-clause-cut g c = let why : IsOfError c.of.result = search (rules) in no_error refl why
