use Rattle.std.proofs.Common.{Err, ap, subst}
use Rattle.std.specs.Io.KnownBytes.{Appends}
use Rattle.ospf_table.specs.Refusal.{refusal_line}
use Rattle.ospf_table.proofs.Lines.{map_some}
use Rattle.ospf_table.proofs.table.answer_or_refuse.Goals as goal

pub returns-in_ok-tell_refusal-in-Err-Entry-clause-refused : goal.returns-in_ok-tell_refusal-in-Err-Entry-clause-refused
returns-in_ok-tell_refusal-in-Err-Entry-clause-refused g c = λ _.
    let number = c.in-Err-Entry.number in
    let fault = c.in-Err-Entry.fault in
    let told = subst (λ old. Appends old (g.E.Write.contents c.tell_refusal.new.err) (refusal_line number fault)) (c.in-Err-Entry.ensures.untold number fault (ap Err c.in-Err-Entry.field-0-is))
    c.in_ok-tell_refusal-in-Err-Entry.ensures.told in
    map_some (g.R.Read.remaining c.args.input) _ _ (λ bytes refused. record { number = number; fault = fault; refused = refused; told = told })
    (c.in-Err-Entry.ensures.refused number fault (ap Err c.in-Err-Entry.field-0-is))

pub returns-in-Err-Failure-clause-cut : goal.returns-in-Err-Failure-clause-cut
returns-in-Err-Failure-clause-cut g c = c.in-Err-Failure.ensures.cut c.in-Err-Failure.failure (ap Err c.in-Err-Failure.field-0-is)
