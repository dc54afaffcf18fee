use Rattle.std.proofs.Common.{◌≡◌, ◌∙◌, ap, Some, None, ◌∷◌}
use Rattle.ospf_sim.specs.Hints.{hint_of, hint_text}
use Rattle.ospf_script.specs.Words.{line_words}
use Rattle.ospf_script.proofs.Named.{name_found, no_name}
use Rattle.ospf_sim.proofs.hint.write_hint.Goals as goal

pub returns-in-None : goal.returns-in-None
returns-in-None g c =
    let word = c.in-Some.word.now in
    let first : line_words c.args.line.now ≡ word ∷ line_words c.in-Some.field-0-1.now = c.in-Some.ensures.word in
    let told : hint_text (line_words c.args.line.now) ≡ hint_of word None = ap hint_text first ∙ ap (hint_of word) (no_name word c.in-None.ensures) in
    rw told c.write_names.ensures

pub returns-in-Some-read : goal.returns-in-Some-read
returns-in-Some-read g c =
    let word = c.in-Some.word.now in
    let first : line_words c.args.line.now ≡ word ∷ line_words c.in-Some.field-0-1.now = c.in-Some.ensures.word in
    let told : hint_text (line_words c.args.line.now) ≡ hint_of word (Some c.in-Some-read.name) =
    ap hint_text first ∙ ap (hint_of word) (name_found word c.in-Some-read.name c.in-Some-read.ensures) in
    let formed = rw c.form_of.ensures at c.write_str.ensures.writes in
    rw told formed
