use Rattle.ospf_whatif.proofs.DownLemmas.{failures_come_together}
use Rattle.ospf_whatif.proofs.router_laws.failures_come_together.Goals as goal

pub returns : goal.returns
returns c = failures_come_together
