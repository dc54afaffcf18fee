use Rattle.std.proofs.Common.{◌≢◌, arith, get_or}
use Rattle.std.proofs.lemmas.Bool.{iff_false}
use Rattle.std.proofs.lemmas.Str.Parse.{without_leading_plus_none}
use Rattle.ospf_script.proofs.Plain.{digits_are_text, eight_digits_fit, if_none}
use Rattle.ospf_script.proofs.values.floor_of.Goals as goal

pub returns-in_err-text_of-clause-none : goal.returns-in_err-text_of-clause-none
returns-in_err-text_of-clause-none c =
    let no_text = rw c.in_err-text_of.was at c.text_of.ensures.none in
    if_none c.from_residual.result _ (λ floor is. no_text (digits_are_text 16 c.args.word.now (omega arith) is.spelled.0.1))

pub returns-in-Err-clause-none : goal.returns-in-Err-clause-none
returns-in-Err-clause-none c floor is =
    let text = rw c.in_ok-text_of.was at c.text_of.ensures.some in
    let plain : get_or c.args.word.now 0 0 ≢ 43 = iff_false c.has_plus.ensures c.if-has_plus.false in
    let parsed = rw (c.in-Err.is, text, without_leading_plus_none c.args.word.now plain) at c.from_str_radix.ensures.value in
    parsed (is.spelled.0, eight_digits_fit c.args.word.now is.spelled.0.1 is.eight)
