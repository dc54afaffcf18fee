use Rattle.std.proofs.Common.{◌≡◌, ◌⊎◌, ◌∙◌, ap, sym, subst, Option}
use Rattle.ospf_lsa.specs.Header.{header_of}
use Rattle.ospf_lsa.specs.Lsa.{key_of}
use Rattle.ospf_neighbour.specs.Neighbour.{NeighbourValue}
use Rattle.ospf_area.specs.Flooding.{on_link}
use Rattle.ospf_area.specs.State.{AreaValue, WaitsIn, neighbour}
use Rattle.ospf_area.proofs.Updates.LawLemmas.{stored}
use Rattle.ospf_area.proofs.Updates.LawLemmas.{waits_on}
use Rattle.ospf_area.proofs.update.laws.stored_stays.Goals as goal

pub returns : goal.returns
returns c = λ lsa from before after stores l q j waits.
    subst (λ (o : Option NeighbourValue). WaitsIn o j ⊎ (j.key ≡ key_of lsa))
    (sym (ap (λ (s : AreaValue). neighbour s l q) stores.rest ∙ stored (key_of lsa) (header_of lsa) from before.tick before.links l q))
    (waits_on (key_of lsa) (header_of lsa) (on_link from l) before.tick (neighbour before l q) j waits)
