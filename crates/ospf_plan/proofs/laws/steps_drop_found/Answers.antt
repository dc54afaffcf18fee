use Rattle.ospf_plan.proofs.StartedLemmas.{found_area, found_hello, found_mtu, found_router}
use Rattle.ospf_plan.proofs.laws.steps_drop_found.Goals as goal

pub returns-clause-router : goal.returns-clause-router
returns-clause-router c = found_router

pub returns-clause-area : goal.returns-clause-area
returns-clause-area c = found_area

pub returns-clause-hello : goal.returns-clause-hello
returns-clause-hello c = found_hello

pub returns-clause-mtu : goal.returns-clause-mtu
returns-clause-mtu c = found_mtu
