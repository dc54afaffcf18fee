use Rattle.std.proofs.Common.{◌≡◌, ◌<◌, Some, false, ap, arith, option_copied, refl}
use Rattle.ospf_lsa.proofs.PutLemmas.{on_err}
use Rattle.ospf_originate.specs.Actions.{IsCompared}
use Rattle.ospf_originate.proofs.action.is_due.Goals as goal

pub returns-in_err-is_said_by-in-Some-clause-compared : goal.returns-in_err-is_said_by-in-Some-clause-compared
returns-in_err-is_said_by-in-Some-clause-compared c =
    let young : c.in-Some.copy.now.age < 1800 = omega (arith, c.if-old.false, c.ticks-old.ensures.value, c.age.ensures) in
    let copy : option_copied c.args.copy ≡ Some c.in-Some.copy.now = ap option_copied c.in-Some.is in
    on_err c.from_residual.result (IsCompared (option_copied c.args.copy) false false) (refl, refl, (c.in-Some.copy.now, copy, young))
