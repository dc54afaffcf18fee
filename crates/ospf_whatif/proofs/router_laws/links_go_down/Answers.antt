use Rattle.ospf_whatif.proofs.DownLemmas.{links_go_down}
use Rattle.ospf_whatif.proofs.router_laws.links_go_down.Goals as goal

pub returns : goal.returns
returns c = links_go_down
