use Rattle.ospf_area.proofs.PackLemmas.{requests_are_filled}
use Rattle.ospf_area.proofs.laws.requests_are_filled.Goals as goal

pub returns : goal.returns
returns c = requests_are_filled
