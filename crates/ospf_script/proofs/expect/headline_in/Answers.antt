use Rattle.ospf_script.proofs.Expecting.{only_headline}
use Rattle.ospf_script.proofs.Plain.{finds_none}
use Rattle.ospf_script.proofs.expect.headline_in.Goals as goal

pub returns-in_err-router_in : goal.returns-in_err-router_in
returns-in_err-router_in c =
    let first = c.in-Some.ensures.word in
    let none = rw c.in_err-router_in.was at c.router_in.ensures in
    finds_none _ _ c.from_residual.ensures (rw first (only_headline _ _ (rw first at none)))
