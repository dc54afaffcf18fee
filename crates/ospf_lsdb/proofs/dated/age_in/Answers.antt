use Rattle.std.proofs.Common.{◌≡◌, ap, sym, ◌∙◌, Option, None, Some, option_map, ℕ}
use Rattle.ospf_lsdb.specs.declared.dated.Stored.{Stored}
use Rattle.ospf_lsdb.specs.Timers.{stored_of, age_at}
use Rattle.ospf_lsdb.proofs.TimerLemmas.{stored_of-get}
use Rattle.ospf_lsdb.proofs.dated.age_in.Goals as goal

pub returns : goal.returns
returns c =
    let some : stored_of c.args.entries.now.entries c.args.key.now ≡ Some c.in_ok-stored.stored.now = sym (stored_of-get c.args.entries.now c.args.key.now) ∙ sym c.in_ok-stored.ensures.value in
    ap (λ (n : ℕ). Some n) c.age.ensures ∙ sym (ap (λ (o : Option Stored). option_map (λ s. age_at c.args.clock s.timer) o) some)

pub returns-in_err-stored : goal.returns-in_err-stored
returns-in_err-stored c =
    let none : stored_of c.args.entries.now.entries c.args.key.now ≡ None = sym (stored_of-get c.args.entries.now c.args.key.now) ∙ sym c.in_err-stored.ensures.value in
    c.from_residual.ensures ∙ sym (ap (λ (o : Option Stored). option_map (λ s. age_at c.args.clock s.timer) o) none)
