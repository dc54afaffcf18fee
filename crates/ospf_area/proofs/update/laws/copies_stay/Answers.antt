use Rattle.std.proofs.Common.{◌≡◌, ◌⊎◌, ◌∙◌, List, true, ap, sym, subst}
use Rattle.ospf_base.specs.Constants.{max_age}
use Rattle.ospf_base.specs.declared.ids.LsaKey.{LsaKey}
use Rattle.ospf_lsdb.specs.Database.{reached_at}
use Rattle.ospf_lsdb.specs.Moments.{among}
use Rattle.ospf_area.specs.State.{AreaValue, Awaits}
use Rattle.ospf_area.proofs.Updates.CopyLemmas.{copies_become, copies_keep, copies_wait, copy_waits}
use Rattle.ospf_area.proofs.update.laws.copies_stay.Goals as goal

pub returns : goal.returns
returns c = record {
  flushed = λ key before out out' after flushes l q j waits.
      subst (λ (s : AreaValue). Awaits s l q j ⊎ (j.key ≡ key)) (sym flushes.sends.state)
      (copy_waits key flushes.mid l q j (subst (λ (s : AreaValue). Awaits s l q j) (sym flushes.rest) waits));
  aged = λ before out out' after ages l q j waits.
      let keys = reached_at max_age ages.mid.database in
      let state = (copies_become keys ages.mid after out out' ages.sends).state in
      let database = ap (λ (s : AreaValue). s.database) state ∙ (copies_keep keys ages.mid).database in
      subst (λ (ks : List LsaKey). Awaits after l q j ⊎ (among ks j.key ≡ true)) (sym (ap (reached_at max_age) database))
      (subst (λ (s : AreaValue). Awaits s l q j ⊎ (among keys j.key ≡ true)) (sym state)
      (copies_wait keys ages.mid l q j (subst (λ (s : AreaValue). Awaits s l q j) (sym ages.rest) waits)));
}
