use Rattle.ospf_script.proofs.Plain.{dotted_is_text, finds_none}
use Rattle.ospf_script.proofs.values.address_of.Goals as goal

pub returns-in_err-text_of : goal.returns-in_err-text_of
returns-in_err-text_of c =
    let no_text = rw c.in_err-text_of.was at c.text_of.ensures.none in
    finds_none _ _ c.from_residual.ensures (λ address spelled. no_text (dotted_is_text c.args.word.now address.0 spelled.0))
