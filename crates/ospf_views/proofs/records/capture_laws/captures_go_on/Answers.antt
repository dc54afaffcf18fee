use Rattle.ospf_views.proofs.RecordFiles.RecorderFacts.{captures_on}
use Rattle.ospf_views.proofs.records.capture_laws.captures_go_on.Goals as goal

pub returns : goal.returns
returns c = captures_on
