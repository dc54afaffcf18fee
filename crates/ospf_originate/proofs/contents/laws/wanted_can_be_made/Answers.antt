use Rattle.ospf_originate.proofs.Wants.MakeLemmas.{wanted_made}
use Rattle.ospf_originate.proofs.contents.laws.wanted_can_be_made.Goals as goal

pub returns : goal.returns
returns c = wanted_made
