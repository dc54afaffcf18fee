use Rattle.ospf_whatif.proofs.LessLemmas.{failures_make_no_edge}
use Rattle.ospf_whatif.proofs.laws.failures_make_no_edge.Goals as goal

pub returns : goal.returns
returns c = failures_make_no_edge
