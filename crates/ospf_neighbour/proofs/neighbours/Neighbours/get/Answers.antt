use Rattle.std.proofs.Common.{sym}
use Rattle.ospf_neighbour.proofs.NeighbourLemmas.{none_there}
use Rattle.ospf_neighbour.proofs.neighbours.Neighbours.get.Goals as goal

pub returns-in_err-at-clause-none : goal.returns-in_err-at-clause-none
returns-in_err-at-clause-none c = rw c.from_residual.ensures (none_there c.args.self.now c.args.router (sym c.in_err-at.ensures)).1
