use Rattle.std.proofs.Common.{◌≡◌, ◌∷◌, [], Ok, false, length, take, refl, ap, subst, sym, ◌∙◌, arith}
use Rattle.std.specs.Result.{is_ok}
use Rattle.std.proofs.lemmas.List.{take_at}
use Rattle.ospf_base.specs.declared.event.event.WorldFault.TheVariants as fault
use Rattle.ospf_world.specs.Slots.{SlotSteps, SlotTakes}
use Rattle.ospf_world.specs.World.{WantsRoom}
use Rattle.ospf_world.proofs.ComesFacts.{none_more}
use Rattle.ospf_world.proofs.TickFacts.{no_tick, not_pushed, pushed, tick_runs, tick_taken}
use Rattle.ospf_world.proofs.ticks.step_slot.Goals as goal

pub returns-in_default-clause-ticks : goal.returns-in_default-clause-ticks
returns-in_default-clause-ticks c =
    no_tick c.args.event.now c.args.slot.now c.step.new.self c.args.logs.now c.step.new.logs c.step.result _ c.args.ticks.now.items c.step.ensures.steps c.in_default.ensures.none

pub returns-then-is_err-clause-steps : goal.returns-then-is_err-clause-steps
returns-then-is_err-clause-steps c =
    SlotSteps.Taken (tick_runs c.args.event.now c.args.slot.now c.args.logs.now.datagrams c.in-Some.tick.router c.in-Some.ensures.some.0 c.in-Some.ensures.some.2) (SlotTakes.NotDone (subst WantsRoom (sym c.in-Some.ensures.some.0) tt) refl refl refl)

pub returns-then-is_err-clause-ticks : goal.returns-then-is_err-clause-ticks
returns-then-is_err-clause-ticks c =
    let ticks = c.args.ticks.now.items in
    not_pushed _ ticks c.in-Some.tick (is_ok c.push.result) c.push.ensures.items c.if-is_err.ensures.negation
    ∙ none_more c.args.event.now (fault.Memory false) (length c.args.logs.now.datagrams) ticks

pub returns-in-Ok-clause-ticks : goal.returns-in-Ok-clause-ticks
returns-in-Ok-clause-ticks c =
    let ticks = c.args.ticks.now.items in
    pushed _ ticks c.in-Some.tick (is_ok c.push.result) c.push.ensures.items c.if-is_err.ensures.negation
    ∙ tick_taken c.args.event.now c.in-Some.tick (Ok tt) (length c.args.logs.now.datagrams) ticks c.in-Some.ensures.some.0 (c.in-Some.ensures.some.1 ∙ ap length c.datagrams.ensures) refl

pub returns-in-Err-clause-ticks : goal.returns-in-Err-clause-ticks
returns-in-Err-clause-ticks c =
    let ticks = c.args.ticks.now.items in
    let count : length ticks ≡ c.len-count.result = (let h = c.len-count.ensures in omega (arith, h, c.args.ticks.now.ok.0)) in
    c.truncate.ensures.items
    ∙ ap (take c.len-count.result) (pushed _ ticks c.in-Some.tick (is_ok c.push.result) c.push.ensures.items c.if-is_err.ensures.negation)
    ∙ take_at ticks (c.in-Some.tick ∷ []) c.len-count.result count
    ∙ none_more c.args.event.now c.in-Err.fault (length c.args.logs.now.datagrams) ticks
