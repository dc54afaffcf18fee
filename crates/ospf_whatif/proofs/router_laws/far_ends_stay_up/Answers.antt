use Rattle.ospf_whatif.proofs.DownLemmas.{far_ends_stay_up}
use Rattle.ospf_whatif.proofs.router_laws.far_ends_stay_up.Goals as goal

pub returns : goal.returns
returns c = far_ends_stay_up
