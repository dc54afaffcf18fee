use Rattle.ospf_script.proofs.Plain.{finds_none}
use Rattle.ospf_script.proofs.values.router_of.Goals as goal

pub returns-in_err-address_of : goal.returns-in_err-address_of
returns-in_err-address_of c =
    let none = rw c.in_err-address_of.was at c.address_of.ensures in
    finds_none _ _ c.from_residual.ensures (λ router spelled. none (record { 0 = router.0 }) spelled)
