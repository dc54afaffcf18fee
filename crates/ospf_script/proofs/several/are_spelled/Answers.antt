use Rattle.std.proofs.Common.{[], ◌∷◌, ◌++◌, rules}
use Rattle.ospf_script.specs.Words.{line_words}
use Rattle.ospf_script.proofs.Leading.{leads_on, leads_to_end}
use Rattle.ospf_script.proofs.several.are_spelled.Goals as goal

pub loop-word-preserved : goal.loop-word-preserved
loop-word-preserved g c = (
  c.loop-word.invariant.0 ++ c.in-Some-of_word.field-0 ∷ [],
  leads_on _ _ _ (line_words c.in-Some.behind.now) _ c.in-Some.word.now _ c.loop-word.invariant.1 c.in-Some.ensures.word c.in-Some-of_word.ensures,
)

pub returns : goal.returns
returns g c = ((λ t. (c.loop-word.invariant.0, leads_to_end _ _ _ _ c.loop-word.invariant.1 c.in_default.ensures.none)), λ some. search rules)
