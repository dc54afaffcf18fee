use Rattle.std.proofs.Common.{◌∙◌}
use Rattle.ospf_commands.proofs.Premises.{difference_of_lent, difference_of_stopped}
use Rattle.ospf_commands.proofs.premise.difference_at.Goals as goal

pub returns-in_ok-listing-in-Ok : goal.returns-in_ok-listing-in-Ok
returns-in_ok-listing-in-Ok c =
    c.difference_between-in-Ok.ensures ∙ difference_of_lent _ _ _ _ c.in-Ok.lent c.in-Ok.ensures c.in_ok-listing-in-Ok.ensures

pub returns-in-Err : goal.returns-in-Err
returns-in-Err c = difference_of_stopped _ _ _ c.in-Err._fault c.in-Err.ensures
