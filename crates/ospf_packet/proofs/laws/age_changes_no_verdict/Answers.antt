use Rattle.ospf_packet.proofs.AgeLaw.{same_at_any_age}
use Rattle.ospf_packet.proofs.laws.age_changes_no_verdict.Goals as goal

pub returns : goal.returns
returns c = same_at_any_age
