use Rattle.ospf_area.proofs.Updates.BringLemmas.{brings_short}
use Rattle.ospf_area.proofs.update.laws.updates_bring_short.Goals as goal

pub returns : goal.returns
returns c = brings_short
