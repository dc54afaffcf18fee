use Rattle.ospf_script.specs.Expected.{SpellsArrival}
use Rattle.ospf_script.specs.Words.{line_words}
use Rattle.std.proofs.Common.{subst}
use Rattle.ospf_script.proofs.Expecting.{only_walk, rest_one}
use Rattle.ospf_script.proofs.Plain.{finds_none}
use Rattle.ospf_script.proofs.expect.arrival_in.Goals as goal

pub returns-in_err-from : goal.returns-in_err-from
returns-in_err-from c =
    let none = rw c.in_err-from.was at c.ends_in.ensures.none in
    finds_none _ _ c.from_residual.ensures (only_walk _ (λ from address rest cost begins arrives. none from address rest begins))

pub returns-in_err-cost : goal.returns-in_err-cost
returns-in_err-cost c =
    let ends = rw c.in_ok-from.was at c.ends_in.ensures.some in
    let none = rw c.in_err-cost.was at c.cost_in.ensures in
    finds_none _ _ c.from_residual-in_err-cost.ensures (only_walk _ (λ from address rest cost begins arrives.
    none cost (subst (λ ws. SpellsArrival ws cost) (rest_one _ from c.in_ok-from.from address c.in_ok-from.address rest (line_words c.in_ok-from.rest.now) begins ends) arrives)))
