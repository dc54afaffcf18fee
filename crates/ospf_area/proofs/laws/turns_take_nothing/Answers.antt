use Rattle.std.proofs.Common.{◌↔◌, sym, subst, Option}
use Rattle.ospf_neighbour.specs.Neighbour.{NeighbourValue}
use Rattle.ospf_area.specs.State.{WaitsIn}
use Rattle.std.proofs.Common.{slice_get}
use Rattle.ospf_area.specs.State.{neighbour_at}
use Rattle.ospf_area.proofs.LawLemmas.{turns_there}
use Rattle.ospf_area.proofs.WaitLemmas.{turn_waits}
use Rattle.ospf_area.proofs.laws.turns_take_nothing.Goals as goal

pub returns : goal.returns
returns c = λ own links l q j.
    subst (λ (o : Option NeighbourValue). WaitsIn o j ↔ WaitsIn (neighbour_at links l q) j) (sym (turns_there own links l q)) (turn_waits own (slice_get links l) (neighbour_at links l q) j)
