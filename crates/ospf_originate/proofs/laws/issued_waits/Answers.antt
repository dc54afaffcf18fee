use Rattle.ospf_originate.proofs.OwnLaws.{issue_waits}
use Rattle.ospf_originate.proofs.laws.issued_waits.Goals as goal

pub returns : goal.returns
returns c = issue_waits
