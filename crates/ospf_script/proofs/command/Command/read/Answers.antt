use Rattle.std.proofs.Common.{◌≡◌, true, false}
use Rattle.std.proofs.lemmas.Result.{err_from_is_err_and}
use Rattle.ospf_script.specs.Words.{line_words}
use Rattle.ospf_script.specs.Commands.{name_of_command}
use Rattle.ospf_script.proofs.Unspelled.{not_blank, unreadable, unreadable_of}
use Rattle.ospf_script.proofs.command.Command.read.Goals as goal

pub returns-in_default-read-clause-not_a_command : goal.returns-in_default-read-clause-not_a_command
returns-in_default-read-clause-not_a_command c = λ e.
    unreadable c.args.line.now c.in-Some.word.now (line_words c.in-Some.rest.now) c.in-Some.ensures.word (λ command own takes. c.in_default-read.ensures (name_of_command command) own)

pub returns-in_err-of_words-clause-not_a_command : goal.returns-in_err-of_words-clause-not_a_command
returns-in_err-of_words-clause-not_a_command c =
    let p = err_from_is_err_and c.from_residual.result c.from_residual.ensures.1 in
    rw (p.1, p.2)
    (λ e. unreadable_of c.args.line.now c.in-Some.word.now (line_words c.in-Some.rest.now) c.in-Some-read.name c.in-Some.ensures.word c.in-Some-read.ensures (c.in_err-of_words.ensures.not_a_command e))

pub returns-clause-blank : goal.returns-clause-blank
returns-clause-blank c =
    let some : true ≡ false → ⊥ = λ e. cc in
    ((λ e. absurd (some e)), λ blank. absurd (not_blank c.args.line.now c.in-Some.word.now (line_words c.in-Some.rest.now) c.in-Some.ensures.word blank))
