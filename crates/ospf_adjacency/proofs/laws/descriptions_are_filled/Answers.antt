use Rattle.ospf_adjacency.proofs.FillLemmas.{descriptions_are_filled}
use Rattle.ospf_adjacency.proofs.laws.descriptions_are_filled.Goals as goal

pub returns : goal.returns
returns c = descriptions_are_filled
