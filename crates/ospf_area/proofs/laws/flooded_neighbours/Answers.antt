use Rattle.ospf_area.proofs.LawLemmas.{flooded_there}
use Rattle.ospf_area.proofs.laws.flooded_neighbours.Goals as goal

pub returns : goal.returns
returns c = flooded_there
