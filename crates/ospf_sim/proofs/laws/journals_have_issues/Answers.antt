use Rattle.ospf_sim.proofs.IssueFacts.{issued_by}
use Rattle.ospf_sim.proofs.laws.journals_have_issues.Goals as goal

pub returns : goal.returns
returns c = issued_by
