use Rattle.std.proofs.Common.{◌∙◌, ap}
use Rattle.ospf_lsa.specs.Header.{header_of}
use Rattle.ospf_lsa.specs.Lsa.{key_of}
use Rattle.ospf_area.specs.State.{AreaValue, neighbour}
use Rattle.ospf_area.proofs.Updates.LawLemmas.{stored}
use Rattle.ospf_area.proofs.update.laws.stored_neighbours.Goals as goal

pub returns : goal.returns
returns c = λ lsa from before after stores l q. ap (λ (s : AreaValue). neighbour s l q) stores.rest ∙ stored (key_of lsa) (header_of lsa) from before.tick before.links l q
