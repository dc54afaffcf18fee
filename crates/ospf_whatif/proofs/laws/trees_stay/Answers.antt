use Rattle.ospf_whatif.proofs.LessLemmas.{trees_stay}
use Rattle.ospf_whatif.proofs.laws.trees_stay.Goals as goal

pub returns : goal.returns
returns c = trees_stay
