use Rattle.ospf_plan.proofs.DropLemmas.{others_agree, others_differ, others_share_area, others_share_mtu, others_share_network}
use Rattle.ospf_plan.proofs.laws.others_are_taken.Goals as goal

pub returns-clause-router : goal.returns-clause-router
returns-clause-router c = others_differ

pub returns-clause-area : goal.returns-clause-area
returns-clause-area c = others_share_area

pub returns-clause-network : goal.returns-clause-network
returns-clause-network c = others_share_network

pub returns-clause-hello : goal.returns-clause-hello
returns-clause-hello c = others_agree

pub returns-clause-mtu : goal.returns-clause-mtu
returns-clause-mtu c = others_share_mtu
