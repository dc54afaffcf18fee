use Rattle.ospf_views.proofs.RecordFiles.WorldLogs.{logs_on, on_and_on}
use Rattle.ospf_views.proofs.records.capture_laws.logs_go_on.Goals as goal

pub returns-clause-once : goal.returns-clause-once
returns-clause-once c = logs_on

pub returns-clause-again : goal.returns-clause-again
returns-clause-again c = on_and_on
