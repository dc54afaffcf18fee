use Rattle.ospf_area.proofs.LawLemmas.{turns_there}
use Rattle.ospf_area.proofs.laws.turned_neighbours.Goals as goal

pub returns : goal.returns
returns c = turns_there
