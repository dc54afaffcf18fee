use Rattle.ospf_script.proofs.Plain.{finds_none}
use Rattle.ospf_script.proofs.Unspelled.{not_rounds}
use Rattle.ospf_script.proofs.shapes.rounds_in.Goals as goal

pub returns-in_err-count : goal.returns-in_err-count
returns-in_err-count c =
    let none = rw c.in_err-count.was at c.numbers_in.ensures in
    finds_none _ _ c.from_residual-in_err-count.ensures (λ found. not_rounds _ c.in_default.ensures.none none found.0 found.1)
