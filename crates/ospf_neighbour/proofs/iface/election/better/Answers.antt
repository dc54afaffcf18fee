use Rattle.std.proofs.Common.{rules, refl, sym}
use Rattle.ospf_neighbour.specs.Interface.Choice.BestOr.{Stays, Follows}
use Rattle.ospf_neighbour.proofs.iface.election.better.Goals as goal

pub returns-then-outranks : goal.returns-then-outranks
returns-then-outranks c = Follows c.in-Some.b c.in-Some.is (search rules) (search rules) refl

pub returns-else-outranks : goal.returns-else-outranks
returns-else-outranks c = Stays c.in-Some.b c.in-Some.is (search rules) (sym c.in-Some.is)
