use Rattle.ospf_neighbour.proofs.Interface.ElectionLaws as lemmas
use Rattle.ospf_neighbour.proofs.iface.laws.order_does_not_matter.Goals as goal

pub returns : goal.returns
returns c = lemmas.order_does_not_matter
