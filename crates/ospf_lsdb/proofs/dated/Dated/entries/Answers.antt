use Rattle.std.proofs.Common.{List, map, ap, subst, sym, ◌∙◌}
use Rattle.std.specs.List.{AllByRecursion}
use Rattle.ospf_lsdb.specs.Database.{Held, IsDatabase}
use Rattle.ospf_lsdb.specs.Entries.{entry_now, AgeFits}
use Rattle.ospf_lsdb.specs.declared.dated.Stored.{Stored}
use Rattle.ospf_lsdb.proofs.TimerLemmas.{IsDatabase-stored}
use Rattle.ospf_lsdb.proofs.WalkLemmas.{young_values, map_values}
use Rattle.ospf_lsdb.proofs.dated.Dated.entries.Goals as goal

pub new-requires : goal.new-requires
new-requires c =
    subst (λ (ss : List Stored). AllByRecursion (AgeFits c.self.inside.clock) ss) (sym c.values.ensures.rest)
    (young_values c.self.inside.clock c.self.inside.entries.entries c.self.invariant.kept.stored)

pub returns-clause-entries : goal.returns-clause-entries
returns-clause-entries c =
    c.new.ensures ∙ ap (λ (ss : List Stored). map (entry_now c.self.inside.clock) ss) c.values.ensures.rest
    ∙ map_values c.self.inside.clock c.self.inside.due c.self.inside.entries.entries
    ∙ ap (λ (db : List Held). map (λ h. h.entry) db) c.self.view_is

pub returns-clause-database : goal.returns-clause-database
returns-clause-database c = subst (λ (d : List Held). IsDatabase d) c.self.view_is (IsDatabase-stored c.self.inside.clock c.self.inside.entries.entries c.self.inside.due c.self.invariant.kept)
