use Rattle.std.proofs.Common.{inl, inr}
use Rattle.std.proofs.lemmas.Result.{IfOk-weaker}
use Rattle.ospf_table.proofs.output.lookup_line.Goals as goal

pub returns-in-Some : goal.returns-in-Some
returns-in-Some c = IfOk-weaker c.found_line.result _ _ (λ line is. inr is) c.found_line.ensures

pub returns-in-None : goal.returns-in-None
returns-in-None c = IfOk-weaker c.none_line.result _ _ (λ line is. inl (record { none = c.in-None.ensures.none; line_is = is })) c.none_line.ensures
