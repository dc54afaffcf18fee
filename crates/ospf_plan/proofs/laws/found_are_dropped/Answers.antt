use Rattle.ospf_plan.proofs.DropLemmas.{area_drops, hello_drops, mtu_drops, router_drops}
use Rattle.ospf_plan.proofs.laws.found_are_dropped.Goals as goal

pub returns-clause-router : goal.returns-clause-router
returns-clause-router c = router_drops

pub returns-clause-area : goal.returns-clause-area
returns-clause-area c = area_drops

pub returns-clause-hello : goal.returns-clause-hello
returns-clause-hello c = hello_drops

pub returns-clause-mtu : goal.returns-clause-mtu
returns-clause-mtu c = mtu_drops
