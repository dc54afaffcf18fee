use Rattle.std.proofs.Common.{sym, subst}
use Rattle.ospf_neighbour.specs.Neighbours.{AreNeighbours}
use Rattle.ospf_adjacency.proofs.LinkSteps.NeighbourLemmas.{elected_stays}
use Rattle.ospf_adjacency.proofs.link_steps.elections.link_election.Goals as goal

pub put_back-requires : goal.put_back-requires
put_back-requires c =
    let e = c.in_ok-elect_over.ensures.elects in
    elected_stays _ _ _ _ _ _ _ _ e.0 e.1 (subst AreNeighbours (sym c.take_out-all.ensures.neighbours) c.take_out-all.ensures.rising)
