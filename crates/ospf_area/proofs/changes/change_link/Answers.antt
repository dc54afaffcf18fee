use Rattle.std.proofs.Common.{◌≡◌, ◌∙◌, List, Some, ap, sym}
use Rattle.ospf_neighbour.specs.Neighbour.{NeighbourValue}
use Rattle.ospf_neighbour.specs.Neighbours.{neighbour_place}
use Rattle.ospf_neighbour.proofs.NeighbourLemmas.{AreNeighbours-same, routers-set}
use Rattle.ospf_area.proofs.ChangeLemmas.{link_changes, link_stays, nobody_changes, one_changes}
use Rattle.ospf_area.proofs.NeighbourLemmas.{changed-router}
use Rattle.ospf_area.proofs.changes.change_link.Goals as goal
use Rattle.ospf_area.proofs.changes.change_link.Goals.{in-Some, in_default}

pub invariant_of-neighbours : goal.invariant_of-neighbours
invariant_of-neighbours c =
    let n = c.index_mut.result.now in
    let m = c.change_neighbour.new.neighbour in
    let keeps : m.router ≡ n.router = ap (λ (x : NeighbourValue). x.router) c.change_neighbour.ensures ∙ changed-router c.args.change c.args.tick n in
    AreNeighbours-same _ _ (routers-set c.neighbours.inside.all.items c.in-Some.at n m c.index_mut.ensures.value keeps) c.neighbours.invariant

pub returns : goal.returns
returns c =
    let q = c.args.router in
    let ns = c.neighbours.inside.all.items in
    let place = λ (ms : List NeighbourValue). neighbour_place ms q in
    elim c.match-position.branch [
      | in-Some w ↦
          let found : neighbour_place ns q ≡ Some w.in-Some.at = ap place c.neighbours.view_is ∙ sym c.position.ensures ∙ w.in-Some.is in
          rw w.link-inside-is
          (link_changes q c.args.change c.args.tick _ _ ns _ c.link.view_is c.neighbours.view_is
          (one_changes q c.args.change c.args.tick ns w.in-Some.at w.index_mut.result.now w.change_neighbour.new.neighbour c.neighbours.invariant.rising found w.index_mut.ensures.value w.change_neighbour.ensures))
      | in_default w ↦
          rw w.link-inside-is
          (link_stays q c.args.change c.args.tick _ _ c.link.view_is
          (nobody_changes q c.args.change c.args.tick c.link.inside.neighbours (sym c.position.ensures ∙ w.in_default.is)))
    ]
