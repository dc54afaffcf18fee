use Rattle.ospf_area.proofs.Updates.PackLemmas.{acknowledgements_are_ordered}
use Rattle.ospf_area.proofs.update.laws.acknowledgements_are_ordered.Goals as goal

pub returns : goal.returns
returns c = acknowledgements_are_ordered
