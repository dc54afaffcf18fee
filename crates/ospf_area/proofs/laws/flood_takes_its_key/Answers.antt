use Rattle.std.proofs.Common.{◌≡◌, ◌⊎◌, sym, subst, Option}
use Rattle.ospf_neighbour.specs.Neighbour.{NeighbourValue}
use Rattle.ospf_area.specs.State.{WaitsIn}
use Rattle.ospf_area.specs.Flooding.{on_link}
use Rattle.ospf_area.specs.State.{neighbour_at}
use Rattle.ospf_area.proofs.LawLemmas.{flooded_there}
use Rattle.ospf_area.proofs.WaitLemmas.{flood_waits}
use Rattle.ospf_area.proofs.laws.flood_takes_its_key.Goals as goal

pub returns : goal.returns
returns c = λ key h from tick links l q j waits.
    subst (λ (o : Option NeighbourValue). WaitsIn o j ⊎ (j.key ≡ key)) (sym (flooded_there key h from tick links l q)) (flood_waits key h (on_link from l) tick (neighbour_at links l q) j waits)
