use Rattle.std.proofs.Common.{◌≡◌, ◌∙◌, ◌==◌, Some, List, not, ap, sym, subst}
use Rattle.ospf_neighbour.specs.Neighbour.{NeighbourValue}
use Rattle.ospf_neighbour.specs.Neighbours.{AreNeighbours, neighbour_place, without_router}
use Rattle.ospf_neighbour.proofs.NeighbourLemmas.{AreNeighbours-filter, none_without, one_without}
use Rattle.ospf_neighbour.proofs.neighbours.Neighbours.remove.Goals as goal

pub invariant_of-self : goal.invariant_of-self
invariant_of-self c =
    let ns = c.self.inside.all.items in
    let q = c.args.router in
    let found : neighbour_place ns q ≡ Some c.in-Some.at = ap (λ (ms : List NeighbourValue). neighbour_place ms q) c.self.view_is ∙ sym c.position.ensures ∙ c.in-Some.is in
    let left = c.remove.ensures.items ∙ one_without ns q c.in-Some.at c.remove.result c.self.invariant.rising found in
    subst AreNeighbours (sym left) (AreNeighbours-filter (λ (n : NeighbourValue). not (n.router.0 == q.0)) ns c.self.invariant)

pub returns-in-Some : goal.returns-in-Some
returns-in-Some c =
    let ns = c.self.inside.all.items in
    let q = c.args.router in
    let found : neighbour_place ns q ≡ Some c.in-Some.at = ap (λ (ms : List NeighbourValue). neighbour_place ms q) c.self.view_is ∙ sym c.position.ensures ∙ c.in-Some.is in
    c.remove.ensures.items ∙ one_without ns q c.in-Some.at c.remove.result c.self.invariant.rising found ∙ ap (without_router q) c.self.view_is

pub returns-in_default : goal.returns-in_default
returns-in_default c = none_without c.args.self.now c.args.router (sym c.position.ensures ∙ c.in_default.is)
