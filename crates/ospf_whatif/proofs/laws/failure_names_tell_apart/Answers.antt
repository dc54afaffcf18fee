use Rattle.ospf_whatif.proofs.NameLemmas.{failure_names_tell_apart}
use Rattle.ospf_whatif.proofs.laws.failure_names_tell_apart.Goals as goal

pub returns : goal.returns
returns c = failure_names_tell_apart
