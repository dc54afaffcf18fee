use Rattle.std.proofs.Common.{refl}
use Rattle.ospf_neighbour.specs.Interface.Election.IsDr.{Declared}
use Rattle.ospf_neighbour.proofs.iface.election.designated.Goals as goal

pub returns-in-Some : goal.returns-in-Some
returns-in-Some c = Declared c.in-Some.c c.in-Some.ensures.some refl
