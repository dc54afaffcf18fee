use Rattle.std.proofs.Common.{eqb-true, length, sym, ◌∙◌}
use Rattle.std.proofs.lemmas.List.{nil_from_length}
use Rattle.ospf_router.specs.Growing.{IsUntouched}
use Rattle.ospf_router.proofs.growing.touch_turn.Goals as goal

pub returns-then-is_unreached-clause-rest : goal.returns-then-is_unreached-clause-rest
returns-then-is_unreached-clause-rest c = λ p free.
    IsUntouched.Unreached (nil_from_length c.args.changed.now (eqb-true (length c.args.changed.now) 0 (sym c.is_empty.ensures ∙ c.if-is_empty.true)))
    (c.is_unreached.ensures c.if-is_unreached.true)

pub returns-clause-rest : goal.returns-clause-rest
returns-clause-rest c = λ p free.
    IsUntouched.Unchanged (c.in_ok-touch_own.ensures.own p (λ m. free (c.in_ok-touch_changed.ensures.kept p m)))
    (λ v k m is. free (c.in_ok-touch_changed.ensures.changed p v k m is))
