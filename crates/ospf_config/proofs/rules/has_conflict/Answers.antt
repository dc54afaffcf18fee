use Rattle.std.proofs.Common.{refl}
use Rattle.std.proofs.lemmas.Bool.{iff_false}
use Rattle.ospf_config.proofs.ConflictLists.{found_first, none_first}
use Rattle.ospf_config.proofs.rules.has_conflict.Goals as goal

pub returns-then-conflicts_with_any : goal.returns-then-conflicts_with_any
returns-then-conflicts_with_any c =
    ((λ _. found_first _ _ _ _ c.in-Some.ensures.cases.0 c.loop-first.invariant (c.conflicts_with_any.ensures.0 c.if-conflicts_with_any.true)), λ _. refl)

pub loop-first-preserved : goal.loop-first-preserved
loop-first-preserved c =
    none_first _ _ _ _ c.in-Some.ensures.cases.0 c.loop-first.invariant (iff_false c.conflicts_with_any.ensures c.if-conflicts_with_any.false)
