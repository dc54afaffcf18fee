use Rattle.ospf_adjacency.proofs.StayLemmas.{stay}
use Rattle.ospf_adjacency.proofs.hello_laws.neighbours_stay_of_link.Goals as goal

pub returns : goal.returns
returns c = stay
