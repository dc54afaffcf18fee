use Rattle.std.proofs.Common.{◌∙◌, ap, sym, subst}
use Rattle.ospf_adjacency.specs.Links.{timed}
use Rattle.ospf_neighbour.specs.Neighbours.{AreNeighbours}
use Rattle.ospf_neighbour.specs.Neighbour.{NeighbourValue}
use Rattle.std.proofs.Common.{List}
use Rattle.ospf_adjacency.proofs.LinkSteps.NeighbourLemmas.{timed_stays}
use Rattle.ospf_adjacency.proofs.link_steps.ticks.link_timers.Goals as goal

pub put_back-requires : goal.put_back-requires
put_back-requires c =
    subst AreNeighbours (sym (c.count-due.ensures.neighbours ∙ ap (λ (l : List NeighbourValue). timed l) c.take_out-all.ensures.neighbours)) (timed_stays c.args.link.now.neighbours c.take_out-all.ensures.rising)
