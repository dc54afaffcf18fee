use Rattle.ospf_whatif.proofs.StubLemmas.{stubs_fail_alone}
use Rattle.ospf_whatif.proofs.laws.stubs_fail_alone.Goals as goal

pub returns : goal.returns
returns c = stubs_fail_alone
