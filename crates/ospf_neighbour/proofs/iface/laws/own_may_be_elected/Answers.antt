use Rattle.ospf_neighbour.specs.Interface.Machine.{own_candidate}
use Rattle.ospf_neighbour.proofs.Interface.Candidates.{own_distinct}
use Rattle.ospf_neighbour.proofs.Interface.Members.{member_head}
use Rattle.ospf_neighbour.proofs.iface.laws.own_may_be_elected.Goals as goal

pub returns : goal.returns
returns c = λ i others rises apart. (own_distinct (own_candidate i) others rises apart, member_head (own_candidate i) others)
