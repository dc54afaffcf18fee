use Rattle.std.proofs.Common.{◌≡◌, true, false, is_some, ap, ◌∙◌}
use Rattle.std.proofs.lemmas.Result.{IfOk-weaker}
use Rattle.ospf_router.specs.AreaStep.Counts.{with_dropped_on}
use Rattle.ospf_world.proofs.RunningFacts.{fed_from, goes, needs, none_from, not_none, on_err_of, settles_nothing, silent}
use Rattle.ospf_world.proofs.running.RunningRouter.feed.Goals as goal

pub returns-clause-fed : goal.returns-clause-fed
returns-clause-fed c =
    rw (← c.self.view_is) (IfOk-weaker c.settle.result _ _ (λ _ settles. fed_from _ _ _ _ _ _ _ _ (goes _ _ _ _ _ _ _ _ c.steps_are_lawful.ensures c.keeps.ensures c.in_ok-out.ensures.taken (c.count.ensures ∙ ap (λ l. with_dropped_on l c.in_ok-out.field-0.dropped c.self.inside.drops) c.comes_on-link.ensures)) settles) c.settle.ensures.settles)

pub returns-then-is_some-clause-fed : goal.returns-then-is_some-clause-fed
returns-then-is_some-clause-fed c =
    let some : is_some c.in_ok-out.field-0.dropped ≡ true = (let same = c.in_ok-out.dropped-is in let test = c.is_some.ensures in let holds = c.if-is_some.true in cc) in
    rw (← c.self.view_is) (fed_from _ _ _ _ _ _ _ _ (goes _ _ _ _ _ _ _ _ c.steps_are_lawful.ensures c.keeps.ensures c.in_ok-out.ensures.taken (c.count.ensures ∙ ap (λ l. with_dropped_on l c.in_ok-out.field-0.dropped c.self.inside.drops) c.comes_on-link.ensures))
    (settles_nothing c.args.router _ c.in_ok-out.field-0.out c.args.logs.now (silent _ _ _ c.in_ok-out.field-0 c.in_ok-out.ensures.taken (not_none c.in_ok-out.field-0.dropped some))))

pub returns-clause-memory : goal.returns-clause-memory
returns-clause-memory c =
    let none : is_some c.in_ok-out.field-0.dropped ≡ false = (let same = c.in_ok-out.dropped-is in let test = c.is_some.ensures in let fails = c.if-is_some.false in cc) in
    rw (← c.self.view_is) (on_err_of c.settle.result _ (needs _ c.self.inside.router c.step.new.self c.in_ok-out.field-0 c.in_ok-out.ensures.taken (none_from c.in_ok-out.field-0.dropped none)))
