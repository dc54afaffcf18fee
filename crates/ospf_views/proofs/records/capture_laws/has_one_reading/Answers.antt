use Rattle.ospf_views.proofs.RecordFiles.Reading.{one_reading}
use Rattle.ospf_views.proofs.records.capture_laws.has_one_reading.Goals as goal

pub returns : goal.returns
returns c = one_reading
