use Rattle.ospf_originate.proofs.ShortOwn.{ended_short, issued_short, own_short}
use Rattle.ospf_originate.proofs.laws.own_stay_short.Goals as goal

pub returns : goal.returns
returns c = record { made = own_short; issued = issued_short; ended = ended_short }
