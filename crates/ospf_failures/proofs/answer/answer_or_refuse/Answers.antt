use Rattle.std.proofs.Common.{refl, subst}
use Rattle.ospf_failures.specs.Answer.{IsUnreported, unwritten}
use Rattle.ospf_failures.proofs.answer.answer_or_refuse.Goals as goal

pub returns-in-Err-Failure-clause-cut : goal.returns-in-Err-Failure-clause-cut
returns-in-Err-Failure-clause-cut g c =
    unwritten (subst (IsUnreported (g.R.Read.remaining c.args.input) c.args.job.now) c.in-Err-Failure.field-0-is c.in-Err-Failure.ensures.fault) refl refl
