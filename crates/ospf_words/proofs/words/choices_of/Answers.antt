use Rattle.std.proofs.Common.{rules, ◌≡◌, ◌++◌, ◌∷◌, ◌<◌, ◌^◌, [], subst, sym}
use Rattle.ospf_words.proofs.WordLemmas.{choice_more, has_word}
use Rattle.ospf_words.proofs.words.choices_of.Goals as goal

pub returns-in_default-clause-none : goal.returns-in_default-clause-none
returns-in_default-clause-none c = (
  _,
  has_word c.args.words.now c.loop-word.word-index _ c.loop-word-test.true,
  λ number is small. c.in_default.ensures.value.0 (is.0, subst (λ v. v < 2 ^ 32) (sym is.1) small),
)

pub loop-word-preserved : goal.loop-word-preserved
loop-word-preserved c =
    let items : c.push.new.self.items ≡ c.loop-word.choices.items ++ c.in-Ok.choice ∷ [] = search rules in
    rw items (choice_more c.args.words.now c.loop-word.word-index _ c.loop-word.choices.items c.in-Ok.choice c.loop-word-test.true c.loop-word.invariant
    (c.in-Ok.ensures.value.0.0.0, sym c.in-Ok.ensures.value.0.1))
