use Rattle.ospf_script.proofs.Plain.{if_none}
use Rattle.ospf_script.proofs.Unspelled.{no_drops, no_lsas, no_random, no_view}
use Rattle.ospf_script.proofs.read.of_name.Goals as goal

pub returns-in_err-number-in-Random-clause-none : goal.returns-in_err-number-in-Random-clause-none
returns-in_err-number-in-Random-clause-none c =
    let none = rw c.in_err-number-in-Random.was at c.numbers_in.ensures in
    if_none c.from_residual-in_err-number-in-Random.result _ (λ walk say expect. rw c.in-Random.is (no_random _ none))

pub returns-in_err-router-in-Show-clause-none : goal.returns-in_err-router-in-Show-clause-none
returns-in_err-router-in-Show-clause-none c =
    let none = rw c.in_err-router-in-Show.was at c.router_in.ensures in
    if_none c.from_residual-in_err-router-in-Show.result _ (λ walk say expect. rw c.in-Show.is (no_view _ _ none))

pub returns-in_err-router_in-in-Drops-clause-none : goal.returns-in_err-router_in-in-Drops-clause-none
returns-in_err-router_in-in-Drops-clause-none c =
    let none = rw c.in_err-router_in-in-Drops.was at c.router_in-in-Drops.ensures in
    if_none c.from_residual-in_err-router_in-in-Drops.result _ (λ walk say expect. rw c.in-Drops.is (no_drops _ none))

pub returns-in_err-router_in-in-Lsas-clause-none : goal.returns-in_err-router_in-in-Lsas-clause-none
returns-in_err-router_in-in-Lsas-clause-none c =
    let none = rw c.in_err-router_in-in-Lsas.was at c.router_in-in-Lsas.ensures in
    if_none c.from_residual-in_err-router_in-in-Lsas.result _ (λ walk say expect. rw c.in-Lsas.is (no_lsas _ none))
