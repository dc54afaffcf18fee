use Rattle.ospf_script.proofs.Plain.{finds_none}
use Rattle.ospf_script.proofs.Unspelled.{not_why}
use Rattle.ospf_script.proofs.shapes.why_in.Goals as goal

pub returns-in_err-router : goal.returns-in_err-router
returns-in_err-router c =
    let none = rw c.in_err-router.was at c.three_words.ensures.none in
    finds_none _ _ c.from_residual.ensures (λ found. not_why _ c.in_default.ensures none found.0 found.1 found.2)
