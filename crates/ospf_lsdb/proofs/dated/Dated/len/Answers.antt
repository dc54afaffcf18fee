use Rattle.std.proofs.Common.{List, subst}
use Rattle.ospf_lsdb.specs.Database.{Held, IsDatabase}
use Rattle.ospf_lsdb.proofs.TimerLemmas.{IsDatabase-stored}
use Rattle.ospf_lsdb.proofs.dated.Dated.len.Goals as goal

pub returns-clause-database : goal.returns-clause-database
returns-clause-database c = subst (λ (d : List Held). IsDatabase d) c.self.view_is (IsDatabase-stored c.self.inside.clock c.self.inside.entries.entries c.self.inside.due c.self.invariant.kept)
