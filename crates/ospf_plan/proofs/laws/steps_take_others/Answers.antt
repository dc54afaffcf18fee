use Rattle.ospf_plan.proofs.StartedLemmas.{other_area, other_hello, other_mtu, other_network, other_router}
use Rattle.ospf_plan.proofs.laws.steps_take_others.Goals as goal

pub returns-clause-router : goal.returns-clause-router
returns-clause-router c = other_router

pub returns-clause-area : goal.returns-clause-area
returns-clause-area c = other_area

pub returns-clause-network : goal.returns-clause-network
returns-clause-network c = other_network

pub returns-clause-hello : goal.returns-clause-hello
returns-clause-hello c = other_hello

pub returns-clause-mtu : goal.returns-clause-mtu
returns-clause-mtu c = other_mtu
