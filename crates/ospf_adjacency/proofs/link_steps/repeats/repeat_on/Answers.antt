use Rattle.std.proofs.Common.{sym, subst}
use Rattle.ospf_neighbour.specs.Neighbours.{AreNeighbours}
use Rattle.ospf_adjacency.proofs.LinkSteps.RepeatLemmas.{repeated_stay}
use Rattle.ospf_adjacency.proofs.link_steps.repeats.repeat_on.Goals as goal

pub put_back-requires : goal.put_back-requires
put_back-requires c =
    subst AreNeighbours (sym c.in_ok-repeat_to_all.ensures.after)
    (repeated_stay c.args.own c.link.inside.iface c.link.inside.settings c.args.database.now _
    (subst AreNeighbours (sym c.take_out-all.ensures.neighbours) c.take_out-all.ensures.rising))
