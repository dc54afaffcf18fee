use Rattle.ospf_whatif.proofs.LessLemmas.{failures_take_away}
use Rattle.ospf_whatif.proofs.laws.failures_take_away.Goals as goal

pub returns : goal.returns
returns c = failures_take_away
