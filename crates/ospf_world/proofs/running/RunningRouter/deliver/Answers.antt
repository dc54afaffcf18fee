use Rattle.std.proofs.Common.{rules, ◌≡◌, None, Some, true, false, is_some, ap, subst, ◌∙◌, get_or}
use Rattle.std.proofs.lemmas.Result.{IfOk-weaker}
use Rattle.ospf_area.specs.State.{AreaValue}
use Rattle.ospf_world.specs.declared.logs.Datagram.{Datagram}
use Rattle.ospf_router.specs.Steps.{Steps}
use Rattle.ospf_router.specs.AreaStep.Counts.{comes_on, with_dropped_on}
use Rattle.ospf_router.specs.AreaStep.Drops.{dropped_by}
use Rattle.ospf_world.proofs.RunningFacts.{fed_from, goes, needs, none_from, not_none, on_err_of, settles_nothing, silent}
use Rattle.ospf_world.proofs.SlotFacts.{at_place}
use Rattle.ospf_world.specs.Running.{Fed, delivery}
use Rattle.ospf_world.proofs.running.RunningRouter.deliver.Goals as goal

pub returns-clause-fed : goal.returns-clause-fed
returns-clause-fed c = let d : Datagram = c.index-datagrams-place.result in
    let stepped = subst (λ e. Steps e c.self.inside.router c.in_ok-outputs.field-0 c.step.new.self) c.arrival-event.ensures c.in_ok-outputs.ensures.taken in
    rw (← c.self.view_is) (IfOk-weaker c.settle.result _ _ (λ _ settles. at_place (λ g. Fed c.args.router (delivery c.args.link g) _ c.args.logs.now c.settle.new.self c.settle.new.logs) c.args.logs.now.datagrams c.args.place d (c.index-datagrams-place.is ∙ ap (λ xs. get_or xs c.args.place d) c.datagrams.ensures)
    (fed_from c.args.router (delivery c.args.link d) _ _ c.settle.new.self _ c.args.logs.now _ (goes _ _ _ _ _ _ _ _ c.steps_are_lawful.ensures c.keeps.ensures stepped (c.count.ensures ∙ ap (λ l. with_dropped_on l c.in_ok-outputs.field-0.dropped c.self.inside.drops) (c.comes_on-link.ensures ∙ ap comes_on c.arrival-event.ensures))) settles)) c.settle.ensures.settles)

pub returns-in_err-outputs-clause-memory : goal.returns-in_err-outputs-clause-memory
returns-in_err-outputs-clause-memory c = let d : Datagram = c.index-datagrams-place.result in
    rw (← c.self.view_is) (on_err_of c.from_residual.result _ (at_place (λ g. (s : AreaValue) → c.self.inside.router.area ≡ Some s → dropped_by (delivery c.args.link g) s ≡ None) c.args.logs.now.datagrams c.args.place d
    (c.index-datagrams-place.is ∙ ap (λ xs. get_or xs c.args.place d) c.datagrams.ensures)
    (λ s is. subst (λ e. dropped_by e s ≡ None) c.arrival-event.ensures (let here : c.self.inside.router.area ≡ Some s = is in search rules))))

pub returns-then-is_some-clause-fed : goal.returns-then-is_some-clause-fed
returns-then-is_some-clause-fed c = let d : Datagram = c.index-datagrams-place.result in
    let stepped = subst (λ e. Steps e c.self.inside.router c.in_ok-outputs.field-0 c.step.new.self) c.arrival-event.ensures c.in_ok-outputs.ensures.taken in
    let some : is_some c.in_ok-outputs.field-0.dropped ≡ true = (let same = c.in_ok-outputs.dropped-is in let test = c.is_some.ensures in let holds = c.if-is_some.true in cc) in
    rw (← c.self.view_is) (at_place (λ g. Fed c.args.router (delivery c.args.link g) _ c.args.logs.now _ c.args.logs.now) c.args.logs.now.datagrams c.args.place d (c.index-datagrams-place.is ∙ ap (λ xs. get_or xs c.args.place d) c.datagrams.ensures)
    (fed_from c.args.router (delivery c.args.link d) _ _ _ _ c.args.logs.now _ (goes _ _ _ _ _ _ _ _ c.steps_are_lawful.ensures c.keeps.ensures stepped (c.count.ensures ∙ ap (λ l. with_dropped_on l c.in_ok-outputs.field-0.dropped c.self.inside.drops) (c.comes_on-link.ensures ∙ ap comes_on c.arrival-event.ensures)))
    (settles_nothing c.args.router _ c.in_ok-outputs.field-0.out c.args.logs.now (silent _ _ _ c.in_ok-outputs.field-0 stepped (not_none c.in_ok-outputs.field-0.dropped some)))))

pub returns-clause-memory : goal.returns-clause-memory
returns-clause-memory c = let d : Datagram = c.index-datagrams-place.result in
    let stepped = subst (λ e. Steps e c.self.inside.router c.in_ok-outputs.field-0 c.step.new.self) c.arrival-event.ensures c.in_ok-outputs.ensures.taken in
    let none : is_some c.in_ok-outputs.field-0.dropped ≡ false = (let same = c.in_ok-outputs.dropped-is in let test = c.is_some.ensures in let fails = c.if-is_some.false in cc) in
    rw (← c.self.view_is) (on_err_of c.settle.result _ (at_place (λ g. (s : AreaValue) → c.self.inside.router.area ≡ Some s → dropped_by (delivery c.args.link g) s ≡ None) c.args.logs.now.datagrams c.args.place d
    (c.index-datagrams-place.is ∙ ap (λ xs. get_or xs c.args.place d) c.datagrams.ensures)
    (needs (delivery c.args.link d) c.self.inside.router c.step.new.self c.in_ok-outputs.field-0 stepped (none_from c.in_ok-outputs.field-0.dropped none))))
