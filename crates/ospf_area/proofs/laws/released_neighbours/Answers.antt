use Rattle.ospf_area.proofs.LawLemmas.{released_there}
use Rattle.ospf_area.proofs.laws.released_neighbours.Goals as goal

pub returns : goal.returns
returns c = released_there
