use Rattle.ospf_files.specs.Streams.{no_room}
use Rattle.ospf_check.proofs.json.print_findings.Goals as goal

pub returns-in-Err-clause-cut : goal.returns-in-Err-clause-cut
returns-in-Err-clause-cut g c = no_room
