use Rattle.ospf_whatif.proofs.NameLemmas.{all_names_tell_apart}
use Rattle.ospf_whatif.proofs.laws.all_names_tell_apart.Goals as goal

pub returns : goal.returns
returns c = all_names_tell_apart
