use Rattle.ospf_whatif.proofs.DownLemmas.{interfaces_go_down}
use Rattle.ospf_whatif.proofs.router_laws.interfaces_go_down.Goals as goal

pub returns : goal.returns
returns c = interfaces_go_down
