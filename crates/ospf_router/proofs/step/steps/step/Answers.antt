-- ospf_step/proofs/steps/step/Answers.antt
use Rattle.std.proofs.Common.{Ok, sym, ◌∙◌}
use Rattle.ospf_router.specs.AreaStep.Events.{happening}
use Rattle.ospf_router.specs.declared.step.steps.StepResult.{StepResult}
use Rattle.ospf_router.proofs.AreaStep.StepLawful.{laws_account, laws_sound, step_laws}
use Rattle.ospf_router.proofs.AreaStep.StepSame.{dropped_steps, step_same, taken_steps}
use Rattle.ospf_router.proofs.step.steps.step.Goals as goal

pub returns-then-is_some-clause-accounts : goal.returns-then-is_some-clause-accounts
returns-then-is_some-clause-accounts c sound =
    let e = happening c.args.event in
    let s = c.args.area.now in
    let taken : StepResult = record { out = c.take.new.out; dropped = c.in_ok-dropped.dropped } in
    let is = c.in_ok-dropped.ensures in
    laws_account (Ok taken) e s c.take.new.area sound
    (step_laws c.neighbours_stay_of_link.ensures c.elections_come_about.ensures c.repeats_are_quiet.ensures c.area_stays_sound.ensures (Ok taken) e s c.take.new.area c.requires
    (dropped_steps e s c.take.new.area c.new-out.result c.take.new.out c.in_ok-dropped.dropped c.new-out.ensures (sym c.is_some.ensures ∙ c.if-is_some.true) is.dropped is.unchanged is.silent))

pub returns-clause-step : goal.returns-clause-step
returns-clause-step c =
    let is = c.in_ok-dropped.ensures in
    taken_steps (happening c.args.event) c.args.area.now c.take.new.area c.end.new.area c.new-out.result c.take.new.out c.end.new.out c.in_ok-dropped.dropped c.new-out.ensures
    (sym c.is_some.ensures ∙ c.if-is_some.false) is.dropped is.sender is.takes c.in_ok-end.ensures.ends

pub returns-clause-laws : goal.returns-clause-laws
returns-clause-laws c =
    let taken : StepResult = record { out = c.end.new.out; dropped = c.in_ok-dropped.dropped } in
    step_laws c.neighbours_stay_of_link.ensures c.elections_come_about.ensures c.repeats_are_quiet.ensures c.area_stays_sound.ensures (Ok taken) (happening c.args.event) c.args.area.now c.end.new.area
    c.requires (returns-clause-step c)

pub returns-clause-accounts : goal.returns-clause-accounts
returns-clause-accounts c sound =
    let taken : StepResult = record { out = c.end.new.out; dropped = c.in_ok-dropped.dropped } in
    laws_account (Ok taken) (happening c.args.event) c.args.area.now c.end.new.area sound (returns-clause-laws c)

pub returns-clause-sound : goal.returns-clause-sound
returns-clause-sound c sound =
    let taken : StepResult = record { out = c.end.new.out; dropped = c.in_ok-dropped.dropped } in
    laws_sound (Ok taken) (happening c.args.event) c.args.area.now c.end.new.area sound (returns-clause-laws c)

pub returns-clause-same : goal.returns-clause-same
returns-clause-same c =
    let taken : StepResult = record { out = c.end.new.out; dropped = c.in_ok-dropped.dropped } in
    step_same (Ok taken) (happening c.args.event) c.args.area.now c.end.new.area (returns-clause-step c)
