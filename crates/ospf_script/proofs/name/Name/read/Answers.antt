use Rattle.std.proofs.Common.{rules}
use Rattle.ospf_script.proofs.Plain.{finds_none}
use Rattle.ospf_script.proofs.Named.{words_are_text}
use Rattle.ospf_script.proofs.name.Name.read.Goals as goal

pub returns-in_err-text_of : goal.returns-in_err-text_of
returns-in_err-text_of c =
    let no_text = rw c.in_err-text_of.was at c.text_of.ensures.none in
    finds_none _ _ c.from_residual.ensures (λ name is. no_text (words_are_text c.args.word.now name is))

pub returns-in_default : goal.returns-in_default
returns-in_default c =
    let text = rw c.in_ok-text_of.was at c.text_of.ensures.some in
    rw (← text) (search rules)
