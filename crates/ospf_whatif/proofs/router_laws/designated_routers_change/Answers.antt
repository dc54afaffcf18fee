use Rattle.ospf_whatif.proofs.TakeOverLemmas.{designated_routers_change}
use Rattle.ospf_whatif.proofs.router_laws.designated_routers_change.Goals as goal

pub returns : goal.returns
returns c = designated_routers_change
