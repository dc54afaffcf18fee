use Rattle.std.proofs.Common.{Err, ap, ◌∙◌}
use Rattle.std.proofs.lemmas.Result.{err_from_is_err_and}
use Rattle.ospf_commands.specs.Premise.{premise_of_none}
use Rattle.ospf_commands.proofs.Lent.{not_lent}
use Rattle.ospf_commands.proofs.Premises.{found_for}
use Rattle.ospf_commands.proofs.premise.disagreement.Goals as goal

pub returns-in_err-lent : goal.returns-in_err-lent
returns-in_err-lent c =
    let p = err_from_is_err_and c.from_residual.result c.from_residual.ensures.1 in
    let none = not_lent c.args.world.now c.args.router c.in_err-lent.field-0.0 c.in_err-lent.ensures in
    premise_of_none c.in_err-lent.field-0.0 none (p.1 ∙ ap Err p.2)

pub returns-in-Ok : goal.returns-in-Ok
returns-in-Ok c = found_for _ _ c.in_ok-lent.lent c.in-Ok.found c.in_ok-lent.ensures c.in-Ok.ensures
