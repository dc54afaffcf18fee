use Rattle.std.proofs.Common.{◌∙◌, inl, inr}
use Rattle.std.proofs.lemmas.Bool.{iff_false}
use Rattle.ospf_script.proofs.Expecting.{only_known, only_text}
use Rattle.ospf_script.proofs.Plain.{if_none}
use Rattle.ospf_script.proofs.expect.plain_in.Goals as goal

pub returns-in_err-text_of-clause-none : goal.returns-in_err-text_of-clause-none
returns-in_err-text_of-clause-none c =
    let first = rw c.in_ok-word.was at c.first_word.ensures.word in
    let agree = iff_false c.is_alone.ensures c.if-is_alone.false in
    let settled = iff_false c.is_alone-2.ensures c.if-is_alone-2.false in
    let no_text = rw c.in_err-text_of.was at c.text_of.ensures.none in
    if_none c.from_residual-in_err-text_of.result _ (rw first (only_text _ _ (λ e. agree (first ∙ e)) (λ e. settled (first ∙ e)) no_text))

pub returns-in_default-clause-none : goal.returns-in_default-clause-none
returns-in_default-clause-none c =
    let first = rw c.in_ok-word.was at c.first_word.ensures.word in
    let agree = iff_false c.is_alone.ensures c.if-is_alone.false in
    let settled = iff_false c.is_alone-2.ensures c.if-is_alone-2.false in
    let text = rw c.in_ok-text_of.was at c.text_of.ensures.some in
    rw first
    (only_known _ _ (λ e. agree (first ∙ e)) (λ e. settled (first ∙ e)) (λ e. c.in_default.not-full (text ∙ e))
    (λ is. elim is [ inl british ↦ c.in_default.not-neighbour (text ∙ british) | inr american ↦ c.in_default.not-neighbor (text ∙ american) ])
    (λ e. c.in_default.not-dr (text ∙ e)) (λ e. c.in_default.not-no (text ∙ e))
    (λ e. c.in_default.not-walk (text ∙ e)) (λ e. c.in_default.not-headline (text ∙ e)))
