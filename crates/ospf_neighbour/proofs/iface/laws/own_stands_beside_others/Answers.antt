use Rattle.ospf_neighbour.proofs.Interface.Candidates.{own_beside}
use Rattle.ospf_neighbour.proofs.iface.laws.own_stands_beside_others.Goals as goal

pub returns : goal.returns
returns c = own_beside
