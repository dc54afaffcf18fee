use Rattle.std.proofs.Common.{◌≡◌, ◌∙◌, sym, ap, arith, drop}
use Rattle.std.proofs.lemmas.List.Sums.{prefix_len-le-length}
use Rattle.ospf_script.specs.Words.{is_space, line_words}
use Rattle.ospf_script.proofs.Parts.{position-le, blank_behind, words-first, words-after_spaces, words-blank}
use Rattle.ospf_script.proofs.words.first_word.Goals as goal

pub split_at-requires : goal.split_at-requires
split_at-requires c = omega (arith, c.leading_spaces.ensures, prefix_len-le-length is_space c.args.text.now)

pub returns-then-length-eq0-clause-blank : goal.returns-then-length-eq0-clause-blank
returns-then-length-eq0-clause-blank c =
    blank_behind c.args.text.now c.split_at.result.1.now (c.split_at.ensures.back ∙ ap (λ n. drop n c.args.text.now) c.leading_spaces.ensures) (sym c.place_of-length.ensures ∙ c.if-length-eq0.true)

pub split_at-requires-2 : goal.split_at-requires-2
split_at-requires-2 c = omega (arith, c.place_of-length.ensures, position-le c.split_at.result.1.now)

pub returns-clause-word : goal.returns-clause-word
returns-clause-word c =
    let from = c.split_at.result.1.now in
    let same : line_words from ≡ line_words c.args.text.now = ap line_words (c.split_at.ensures.back ∙ ap (λ n. drop n c.args.text.now) c.leading_spaces.ensures) ∙ words-after_spaces c.args.text.now in
    rw (c.split_at-2.ensures.front, c.split_at-2.ensures.back, c.place_of-length.ensures)
    (sym same ∙ words-first from (omega (arith, c.place_of-length.ensures, c.if-length-eq0.false)))

pub returns-then-length-eq0-clause-none : goal.returns-then-length-eq0-clause-none
returns-then-length-eq0-clause-none c = words-blank c.args.text.now (returns-then-length-eq0-clause-blank c)
