use Rattle.ospf_area.proofs.LawLemmas.{delays_there}
use Rattle.ospf_area.proofs.laws.delayed_neighbours.Goals as goal

pub returns : goal.returns
returns c = delays_there
