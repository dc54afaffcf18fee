use Rattle.ospf_whatif.proofs.RenamedLemmas.{networks_are_but_names}
use Rattle.ospf_whatif.proofs.laws.networks_are_but_names.Goals as goal

pub returns : goal.returns
returns c = networks_are_but_names
