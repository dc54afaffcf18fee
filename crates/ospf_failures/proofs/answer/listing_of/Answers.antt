use Rattle.std.proofs.Common.{IsTrue, string_bytes, subst}
use Rattle.ospf_harm.specs.Input.{IsAreaUnread}
use Rattle.ospf_failures.proofs.AnswerLemmas.{area_refused}
use Rattle.ospf_failures.proofs.answer.listing_of.Goals as goal

pub returns-in-Ok-clause-small : goal.returns-in-Ok-clause-small
returns-in-Ok-clause-small g c = λ rebuilds. c.in-Ok.ensures.small (c.is_rebuilding.ensures.1 rebuilds)

pub returns-in-Err-Refused-clause-fault : goal.returns-in-Err-Refused-clause-fault
returns-in-Err-Refused-clause-fault g c =
    let why = subst (IsAreaUnread (IsTrue c.is_rebuilding.result) (g.R.Read.remaining c.args.input)) c.in-Err-Refused.field-0-is c.in-Err-Refused.ensures.fault in
    area_refused (IsTrue c.is_rebuilding.result) (g.R.Read.remaining c.args.input) c.args.job.now (string_bytes c.in-Err-Refused.text) c.is_rebuilding.ensures.0 why
