use Rattle.std.proofs.Common.{ℤ, subst}
use Rattle.std.specs.Int.{w32}
use Rattle.std.proofs.lemmas.Int.{to_z-of_z}
use Rattle.ospf_lsa.specs.Value.{IsMade}
use Rattle.ospf_originate.specs.Wants.Made.{lsa_value}
use Rattle.ospf_originate.specs.Wants.Own.{wanted_value}
use Rattle.ospf_originate.proofs.StepLemmas.{issue_is}
use Rattle.ospf_originate.proofs.step.issue.Goals as goal

pub returns : goal.returns
returns c =
    let w = wanted_value c.args.wanted.now in
    let made = subst (λ (n : ℤ). IsMade (lsa_value n w) c.in_ok-lsa.lsa) (to_z-of_z w32 c.args.number c.ranges.number) c.in_ok-lsa.ensures in
    issue_is w c.key-key.result c.args.number c.in_ok-lsa.lsa c.view.result c.args.area.now c.store.new.area c.note_tick.new.area c.args.out.now c.tell_issued.new.out c.store.new.out
    c.key-key.ensures made c.view.ensures.same c.in_ok-tell_issued.ensures.valid c.in_ok-tell_issued.ensures.told c.in_ok-store.ensures.after c.in_ok-store.ensures.sent c.note_tick.ensures
