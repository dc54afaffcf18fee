use Rattle.std.proofs.Common.{◌≡◌, ◌⊎◌, sym, subst, ◌∙◌, Option}
use Rattle.ospf_neighbour.specs.Neighbour.{NeighbourValue}
use Rattle.ospf_area.specs.State.{WaitsIn}
use Rattle.ospf_area.specs.State.{neighbour_at}
use Rattle.ospf_area.proofs.LawLemmas.{released_there}
use Rattle.ospf_area.proofs.WaitLemmas.{release_waits, none_after}
use Rattle.ospf_area.proofs.laws.release_takes_its_key.Goals as goal

pub returns : goal.returns
returns c = record {
  others = λ key links l q j waits. subst (λ (o : Option NeighbourValue). WaitsIn o j ⊎ (j.key ≡ key)) (sym (released_there key links l q)) (release_waits key (neighbour_at links l q) j waits);
  gone = λ key links l q n is. none_after key (neighbour_at links l q) n (sym (released_there key links l q) ∙ is);
}
