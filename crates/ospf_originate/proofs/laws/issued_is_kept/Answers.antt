use Rattle.ospf_originate.proofs.OwnLaws.{issue_kept}
use Rattle.ospf_originate.proofs.laws.issued_is_kept.Goals as goal

pub returns : goal.returns
returns c = issue_kept
