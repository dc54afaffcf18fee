use Rattle.ospf_originate.proofs.Wants.WantedLemmas.{wanted_alone}
use Rattle.ospf_originate.proofs.contents.laws.wanted_are_of_their_keys.Goals as goal

pub returns : goal.returns
returns c = wanted_alone
