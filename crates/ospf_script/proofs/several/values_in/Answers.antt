use Rattle.std.proofs.Common.{rules}
use Rattle.ospf_script.specs.Words.{line_words}
use Rattle.ospf_script.proofs.Leading.{leads_to_end, leads_to_many}
use Rattle.ospf_script.proofs.several.values_in.Goals as goal

pub returns-then-are_spelled-clause-memory : goal.returns-then-are_spelled-clause-memory
returns-then-are_spelled-clause-memory g c = λ e.
    let spelled : g.V.Spelled.is_spelled c.in-Some.word.now c.in_ok-value.value = search rules in
    leads_to_many _ _ _ (line_words c.in-Some.behind.now) _ c.in-Some.word.now _ c.loop-word.invariant c.in-Some.ensures.word spelled (c.if-are_spelled.ensures.0 (search rules))

pub returns-clause-ok : goal.returns-clause-ok
returns-clause-ok g c = leads_to_end _ _ _ _ c.loop-word.invariant c.in_default.ensures.none
