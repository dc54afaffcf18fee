use Rattle.std.proofs.Common.{refl}
use Rattle.ospf_neighbour.specs.Interface.Election.IsBackup.{Declared, Ranked}
use Rattle.ospf_neighbour.proofs.iface.election.backup.Goals as goal

pub returns-in-Some : goal.returns-in-Some
returns-in-Some c = Declared c.in-Some.c c.in-Some.ensures.some refl

pub returns-in-Some-best : goal.returns-in-Some-best
returns-in-Some-best c = Ranked c.in-Some-best.c c.in-None.ensures.none c.in-Some-best.ensures.some refl
