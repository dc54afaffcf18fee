use Rattle.ospf_whatif.proofs.StubLemmas.{no_stub_is_forgotten}
use Rattle.ospf_whatif.proofs.laws.no_stub_is_forgotten.Goals as goal

pub returns : goal.returns
returns c = no_stub_is_forgotten
