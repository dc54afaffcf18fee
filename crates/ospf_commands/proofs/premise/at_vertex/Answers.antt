use Rattle.std.proofs.Common.{◌∙◌, sym}
use Rattle.std.proofs.lemmas.Bool.{iff_false}
use Rattle.ospf_commands.proofs.Premises.{differs_there, not_listed, not_router, same_there}
use Rattle.ospf_commands.proofs.premise.at_vertex.Goals as goal

pub returns-in_default : goal.returns-in_default
returns-in_default c = not_router _ _ _ _ c.in_default.not-Router

pub returns-then-not-is_listed : goal.returns-then-not-is_listed
returns-then-not-is_listed c = not_listed _ _ _ _ c.in-Router.router c.in-Router.is (iff_false c.is_listed.ensures c.if-not-is_listed.true)

pub returns-in-Some : goal.returns-in-Some
returns-in-Some c =
    differs_there _ _ _ _ c.in-Router.router c.in-Some.difference c.in-Router.is (c.is_listed.ensures.0 c.if-not-is_listed.false) (sym c.in-Some.is ∙ c.in_ok-difference.ensures)

pub returns-in-None : goal.returns-in-None
returns-in-None c = same_there _ _ _ _ c.in-Router.router c.in-Router.is (sym c.in-None.is ∙ c.in_ok-difference.ensures)
