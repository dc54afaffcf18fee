use Rattle.std.proofs.Common.{◌⊎◌, ap, sym, subst, ◌∙◌, Option}
use Rattle.std.specs.Option.{option_map}
use Rattle.ospf_neighbour.specs.Neighbour.{NeighbourValue}
use Rattle.ospf_area.specs.State.{WaitsIn}
use Rattle.ospf_flood.specs.Offers.{instance_with}
use Rattle.ospf_area.specs.Flooding.{on_link}
use Rattle.ospf_area.specs.Laws.{IsSpared}
use Rattle.ospf_area.proofs.LawLemmas.{flooded_there}
use Rattle.ospf_area.proofs.WaitLemmas.{reaches}
use Rattle.ospf_area.proofs.Words.{flooded_neighbour}
use Rattle.ospf_area.proofs.laws.flood_reaches.Goals as goal

pub returns : goal.returns
returns c = λ key h from tick links l q n is up.
    subst (λ (o : Option NeighbourValue). WaitsIn o (instance_with key h) ⊎ IsSpared key h (on_link from l) n)
    (sym (flooded_there key h from tick links l q ∙ ap (option_map (flooded_neighbour key h (on_link from l) tick)) is))
    (reaches key h (on_link from l) tick n up)
