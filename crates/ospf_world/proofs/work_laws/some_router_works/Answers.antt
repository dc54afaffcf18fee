use Rattle.ospf_world.proofs.Works.{some_router_works}
use Rattle.ospf_world.proofs.work_laws.some_router_works.Goals as goal

pub returns : goal.returns
returns c = some_router_works
