use Rattle.std.proofs.Common.{◌≡◌, ◌∙◌, ap, codes, subst, sym, Some}
use Rattle.std.specs.Cmp.Lexicographic.{bytes_decides}
use Rattle.std.proofs.lemmas.Option.{none-some}
use Rattle.clap.specs.Words.{first_of, found_of, rows_of}
use Rattle.ospf_words.proofs.WordLemmas.{not_word, second_half, some_one}
use Rattle.ospf_words.proofs.words.endless_values.Goals.{in_default-word_of-via-in-Some-word_of+else-eq, in_default-word_of-via-in_default-word_of}
use Rattle.ospf_words.proofs.words.endless_values.Goals as goal

pub returns-in-Some-word_of-clause-ticks : goal.returns-in-Some-word_of-clause-ticks
returns-in-Some-word_of-clause-ticks c =
    let found = found_of c.in-Some.values.now in
    let forever : c.in-Some-word_of.word.now ≡ codes "forever" = (bytes_decides c.in-Some-word_of.word.now (codes "forever")).0 (sym c.eq.ensures ∙ c.if-eq.true) in
    sym c.in-Some-word_of.ensures ∙ ap Some forever

pub returns-in_default-word_of-clause-none : goal.returns-in_default-word_of-clause-none
returns-in_default-word_of-clause-none c = λ is.
    let found = found_of c.in-Some.values.now in
    let same : is.0 ≡ rows_of found = second_half _ (codes "run") is.0 (rows_of found) is.1 c.in-Some.ensures.rows in
    let ticks : first_of (codes "ticks") (rows_of found) ≡ Some (codes "forever") = subst (λ rows. first_of (codes "ticks") rows ≡ Some (codes "forever")) same is.2 in
    elim c.in_default-word_of.branch [
      | in_default-word_of-via-in-Some-word_of+else-eq w ↦ not_word w.in-Some-word_of.word.now (codes "forever") w.eq.result (sym w.eq.ensures) w.if-eq.false
          (some_one _ _ (w.in-Some-word_of.ensures ∙ ticks))
      | in_default-word_of-via-in_default-word_of w ↦ none-some (codes "forever") (w.in_default-word_of.ensures ∙ ticks)
    ]
