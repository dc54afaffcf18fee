use Rattle.ospf_whatif.proofs.DownLemmas.{ends_go_down}
use Rattle.ospf_whatif.proofs.router_laws.ends_go_down.Goals as goal

pub returns : goal.returns
returns c = ends_go_down
