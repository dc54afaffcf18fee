use Rattle.std.proofs.lemmas.Result.{on_ok_weaker}
use Rattle.ospf_router.proofs.AreaStep.StepFit.{tick_fit}
use Rattle.ospf_router.proofs.step.ticks.take_tick.Goals as goal

pub returns-clause-fit : goal.returns-clause-fit
returns-clause-fit c =
    on_ok_weaker c.beat.result (λ e. tick_fit c.neighbours_stay_of_link.ensures c.elections_come_about.ensures c.repeats_are_quiet.ensures c.area_stays_sound.ensures c.args.area.now c.args.out.now c.beat.new.out c.beat.new.area e c.requires) c.beat.ensures
