use Rattle.ospf_failures.proofs.AnswerLemmas.{answer_cut, answer_said, warning_cut}
use Rattle.ospf_failures.proofs.answer.print.Goals as goal

pub returns-in-Err-clause-cut : goal.returns-in-Err-clause-cut
returns-in-Err-clause-cut g c = λ input job is.
    warning_cut input job c.args.answer.now is c.in-Err.failure c.args.streams.now c.tell.new.self _ _ c.deref.result.now c.in-Err.ensures.failure
    c.in-Err.ensures.failed c.deref.ensures c.in-Err.ensures.begun

pub returns-in-Ok-clause-said : goal.returns-in-Ok-clause-said
returns-in-Ok-clause-said g c = λ input job is.
    answer_said input job c.args.answer.now is _ _ c.deref.result.now c.deref-2.result.now c.requires c.deref.ensures c.deref-2.ensures c.in_default.ensures.told.1
    c.in-Ok.ensures.printed.1

pub returns-in-Err-print-clause-cut : goal.returns-in-Err-print-clause-cut
returns-in-Err-print-clause-cut g c = λ input job is.
    answer_cut input job c.args.answer.now is c.in-Err-print.failure c.tell.new.self c.print.new.self _ _ c.deref.result.now c.deref-2.result.now
    c.in-Err-print.ensures.failure c.in-Err-print.ensures.failed c.deref.ensures c.deref-2.ensures c.in_default.ensures.told.1 c.in-Err-print.ensures.begun
