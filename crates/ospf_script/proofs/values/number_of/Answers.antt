use Rattle.std.proofs.Common.{arith}
use Rattle.ospf_script.proofs.Plain.{digits_are_text, finds_none}
use Rattle.ospf_script.proofs.values.number_of.Goals as goal

pub returns-in_err-text_of : goal.returns-in_err-text_of
returns-in_err-text_of c =
    let no_text = rw c.in_err-text_of.was at c.text_of.ensures.none in
    finds_none _ _ c.from_residual.ensures (λ n spelled. no_text (digits_are_text 10 c.args.word.now (omega arith) spelled.0.0.1))
