use Rattle.ospf_script.proofs.Plain.{finds_none}
use Rattle.ospf_script.proofs.Unspelled.{not_datagrams}
use Rattle.ospf_script.proofs.shapes.datagrams_in.Goals as goal

pub returns-in_err-router : goal.returns-in_err-router
returns-in_err-router c =
    let none = rw c.in_err-router.was at c.two_words.ensures.none in
    finds_none _ _ c.from_residual-in_err-router.ensures (λ found. not_datagrams _ c.in_default.ensures.none none found.0 found.1)
