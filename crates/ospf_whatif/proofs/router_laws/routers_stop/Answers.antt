use Rattle.ospf_whatif.proofs.DownLemmas.{routers_stop}
use Rattle.ospf_whatif.proofs.router_laws.routers_stop.Goals as goal

pub returns : goal.returns
returns c = routers_stop
