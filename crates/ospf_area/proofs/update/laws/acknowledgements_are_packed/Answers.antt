use Rattle.ospf_area.proofs.Updates.PackLemmas.{acknowledgements_are_packed}
use Rattle.ospf_area.proofs.update.laws.acknowledgements_are_packed.Goals as goal

pub returns : goal.returns
returns c = acknowledgements_are_packed
