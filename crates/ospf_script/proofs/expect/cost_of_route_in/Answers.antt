use Rattle.ospf_script.proofs.Expecting.{route_has_prefix}
use Rattle.ospf_script.proofs.Plain.{if_none}
use Rattle.ospf_script.proofs.expect.cost_of_route_in.Goals as goal

pub returns-in_err-prefix-2-clause-none : goal.returns-in_err-prefix-2-clause-none
returns-in_err-prefix-2-clause-none c =
    let none = rw c.in_err-prefix-2.was at c.prefix_of.ensures in
    if_none c.from_residual-in_err-prefix-2.result _ (λ router prefix cost rest begins.
    none prefix (route_has_prefix _ _ _ _ _ _ _ c.in_ok-router.ensures.word c.in_ok-prefix.ensures.word c.in_ok-cost.ensures.word router prefix cost rest begins))
