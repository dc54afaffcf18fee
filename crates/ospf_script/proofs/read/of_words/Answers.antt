use Rattle.ospf_script.proofs.Plain.{err_of}
use Rattle.ospf_script.proofs.Unspelled.{no_text, no_walk}
use Rattle.ospf_script.proofs.read.of_words.Goals as goal

pub returns-in_err-from-in-Walk-clause-not_a_command : goal.returns-in_err-from-in-Walk-clause-not_a_command
returns-in_err-from-in-Walk-clause-not_a_command c =
    err_of c.from_residual.result c.in_err-from-in-Walk.field-0.0 _ c.from_residual.ensures.1
    (λ is. rw c.in-Walk.is (no_walk _ (c.in_err-from-in-Walk.ensures.not_a_walk is)))

pub returns-in_err-text_in-in-Say-clause-not_a_command : goal.returns-in_err-text_in-in-Say-clause-not_a_command
returns-in_err-text_in-in-Say-clause-not_a_command c =
    err_of c.from_residual-in_err-text_in-in-Say.result c.in_err-text_in-in-Say.field-0.0 _ c.from_residual-in_err-text_in-in-Say.ensures.1
    (λ is. rw c.in-Say.is (no_text _ (c.in_err-text_in-in-Say.ensures.not_a_text is)))
