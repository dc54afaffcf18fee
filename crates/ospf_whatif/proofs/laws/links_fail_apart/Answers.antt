use Rattle.ospf_whatif.proofs.ApartLemmas.{links_fail_apart}
use Rattle.ospf_whatif.proofs.laws.links_fail_apart.Goals as goal

pub returns : goal.returns
returns c = links_fail_apart
