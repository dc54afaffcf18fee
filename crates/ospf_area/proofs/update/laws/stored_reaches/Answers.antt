use Rattle.std.proofs.Common.{◌⊎◌, ◌∙◌, ap, sym, subst, Option}
use Rattle.std.specs.Option.{option_map}
use Rattle.ospf_flood.specs.Offers.{instance_with}
use Rattle.ospf_lsa.specs.Header.{header_of}
use Rattle.ospf_lsa.specs.Lsa.{key_of}
use Rattle.ospf_neighbour.specs.Lists.{key_unlisted}
use Rattle.ospf_neighbour.specs.Neighbour.{NeighbourValue}
use Rattle.ospf_area.specs.Flooding.{on_link}
use Rattle.ospf_area.specs.Laws.{IsSpared}
use Rattle.ospf_area.specs.State.{AreaValue, WaitsIn, neighbour}
use Rattle.ospf_area.proofs.Updates.LawLemmas.{stored}
use Rattle.ospf_area.proofs.Updates.LawLemmas.{reaches}
use Rattle.ospf_area.proofs.Words.{flooded_neighbour}
use Rattle.ospf_area.proofs.update.laws.stored_reaches.Goals as goal

pub returns : goal.returns
returns c = λ lsa from before after stores l q n is up.
    subst (λ (o : Option NeighbourValue). WaitsIn o (instance_with (key_of lsa) (header_of lsa)) ⊎ IsSpared (key_of lsa) (header_of lsa) (on_link from l) n)
    (sym (ap (λ (s : AreaValue). neighbour s l q) stores.rest ∙ stored (key_of lsa) (header_of lsa) from before.tick before.links l q
    ∙ ap (λ (o : Option NeighbourValue). option_map (flooded_neighbour (key_of lsa) (header_of lsa) (on_link from l) before.tick) (option_map (key_unlisted (key_of lsa)) o)) is))
    (reaches (key_of lsa) (header_of lsa) (on_link from l) before.tick n up)
