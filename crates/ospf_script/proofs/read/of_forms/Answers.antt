use Rattle.ospf_script.proofs.Plain.{if_none}
use Rattle.ospf_script.proofs.Unspelled.{no_datagrams, no_loss, no_round, no_why}
use Rattle.ospf_script.proofs.read.of_forms.Goals as goal

pub returns-in_err-count-in-Round-clause-none : goal.returns-in_err-count-in-Round-clause-none
returns-in_err-count-in-Round-clause-none c =
    let none = rw c.in_err-count-in-Round.was at c.rounds_in.ensures in
    if_none c.from_residual.result _ (λ has. rw c.in-Round.is (no_round _ none))

pub returns-in_err-router-in-Why-clause-none : goal.returns-in_err-router-in-Why-clause-none
returns-in_err-router-in-Why-clause-none c =
    let other = c.in_default-why_headline_in.ensures in
    let none = rw c.in_err-router-in-Why.was at c.why_in.ensures in
    if_none c.from_residual-in_err-router-in-Why.result _ (λ has. rw c.in-Why.is (no_why _ other none))

pub returns-in_err-percent-in-Loss-clause-none : goal.returns-in_err-percent-in-Loss-clause-none
returns-in_err-percent-in-Loss-clause-none c =
    let none = rw c.in_err-percent-in-Loss.was at c.loss_in.ensures in
    if_none c.from_residual-in_err-percent-in-Loss.result _ (λ has. rw c.in-Loss.is (no_loss _ none))

pub returns-in_err-router-in-Datagrams-clause-none : goal.returns-in_err-router-in-Datagrams-clause-none
returns-in_err-router-in-Datagrams-clause-none c =
    let none = rw c.in_err-router-in-Datagrams.was at c.datagrams_in.ensures in
    if_none c.from_residual-in_err-router-in-Datagrams.result _ (λ has. rw c.in-Datagrams.is (no_datagrams _ none))
