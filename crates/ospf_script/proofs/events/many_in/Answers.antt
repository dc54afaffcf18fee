use Rattle.ospf_script.proofs.Plain.{finds_none}
use Rattle.ospf_script.proofs.NoEvent.{no_cut, no_mend}
use Rattle.ospf_script.proofs.events.many_in.Goals as goal

pub returns-in_err-address_in-in-Cut : goal.returns-in_err-address_in-in-Cut
returns-in_err-address_in-in-Cut c =
    let none = rw c.in_err-address_in-in-Cut.was at c.address_in.ensures in
    finds_none _ _ c.from_residual.ensures (rw c.in-Cut.is (no_cut _ none))

pub returns-in_err-address_in-in-Mend : goal.returns-in_err-address_in-in-Mend
returns-in_err-address_in-in-Mend c =
    let none = rw c.in_err-address_in-in-Mend.was at c.address_in-in-Mend.ensures in
    finds_none _ _ c.from_residual-in_err-address_in-in-Mend.ensures (rw c.in-Mend.is (no_mend _ none))
