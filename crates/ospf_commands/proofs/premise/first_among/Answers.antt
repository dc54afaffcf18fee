use Rattle.std.proofs.Common.{◌∙◌, None, sym}
use Rattle.ospf_commands.proofs.Premises.{none_of_no_vertices, pass_if_none, stop_if_some}
use Rattle.ospf_commands.proofs.premise.first_among.Goals as goal

pub returns-then-is_some : goal.returns-then-is_some
returns-then-is_some c =
    c.loop-reached.invariant c.in_ok-found.found
    (stop_if_some _ _ _ c.loop-reached.rest.now c.in-Some.behind.now c.in-Some.reached.now c.in_ok-found.found (sym c.is_some.ensures ∙ c.if-is_some.true) c.in-Some.ensures.cases.0 c.in_ok-found.ensures)

pub loop-reached-preserved : goal.loop-reached-preserved
loop-reached-preserved c = λ found h.
    c.loop-reached.invariant found
    (pass_if_none _ _ _ c.loop-reached.rest.now c.in-Some.behind.now c.in-Some.reached.now c.in_ok-found.found found (sym c.is_some.ensures ∙ c.if-is_some.false) c.in-Some.ensures.cases.0 c.in_ok-found.ensures h)

pub returns : goal.returns
returns c = c.loop-reached.invariant None (none_of_no_vertices _ _ _ c.loop-reached.rest.now c.in_default.ensures.cases)
