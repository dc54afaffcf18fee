use Rattle.std.proofs.Common.{◌⊎◌, ◌∙◌, ap, sym, subst, None}
use Rattle.ospf_base.specs.Constants.{max_age}
use Rattle.ospf_flood.specs.Offers.{instance_with}
use Rattle.ospf_lsdb.specs.Database as lsdb
use Rattle.ospf_lsdb.specs.Database.{header_at, reached_at}
use Rattle.ospf_lsdb.specs.Moments.{among}
use Rattle.ospf_area.specs.Laws.{IsSpared}
use Rattle.ospf_area.specs.State.{AreaValue, Awaits, neighbour}
use Rattle.ospf_area.proofs.Updates.CopyLemmas.{copies_become, copies_keep, copy_keeps, copy_reaches}
use Rattle.ospf_area.proofs.Updates.ReachLemmas.{copies_reach}
use Rattle.ospf_area.proofs.update.laws.copies_reach.Goals as goal

pub returns : goal.returns
returns c = record {
  flushed = λ key before out out' after flushes copy at l q n is up.
      let database = ap (λ (s : AreaValue). s.database) flushes.sends.state ∙ (copy_keeps key flushes.mid).database in
      subst (λ (s : AreaValue). Awaits s l q (instance_with key (header_at copy)) ⊎ IsSpared key (header_at copy) None n) (sym flushes.sends.state)
      (copy_reaches key copy flushes.mid (sym (ap (λ db. lsdb.entry_of db key) database) ∙ at) l q n (ap (λ (s : AreaValue). neighbour s l q) flushes.rest ∙ is) up);
  aged = λ before out out' after ages key reached copy at l q n is up.
      let keys = reached_at max_age ages.mid.database in
      let state = (copies_become keys ages.mid after out out' ages.sends).state in
      let database = ap (λ (s : AreaValue). s.database) state ∙ (copies_keep keys ages.mid).database in
      subst (λ (s : AreaValue). Awaits s l q (instance_with key (header_at copy)) ⊎ IsSpared key (header_at copy) None n) (sym state)
      (copies_reach keys ages.mid key (sym (ap (λ db. among (reached_at max_age db) key) database) ∙ reached) copy (sym (ap (λ db. lsdb.entry_of db key) database) ∙ at) l q n
      (ap (λ (s : AreaValue). neighbour s l q) ages.rest ∙ is) up);
}
