use Rattle.ospf_originate.proofs.Wants.WantedLemmas.{wanted_own}
use Rattle.ospf_originate.proofs.contents.laws.wanted_are_own.Goals as goal

pub returns : goal.returns
returns c = wanted_own
