use Rattle.ospf_neighbour.proofs.Interface.ElectionLaws.{one_result}
use Rattle.ospf_neighbour.proofs.iface.laws.has_one_result.Goals as goal

pub returns : goal.returns
returns c = one_result
