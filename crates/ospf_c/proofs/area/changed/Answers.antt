use Rattle.ospf_c.specs.Changes.{of_job}
use Rattle.ospf_c.proofs.area.changed.Goals as goal

pub returns-in-Ok : goal.returns-in-Ok
returns-in-Ok c = of_job c.in-Ok.job c.in-Ok.ensures c.edit_report.ensures
