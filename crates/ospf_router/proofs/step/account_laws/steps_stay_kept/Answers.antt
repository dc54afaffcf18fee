use Rattle.ospf_router.proofs.AreaStep.StepKept.{all_kept}
use Rattle.ospf_router.proofs.step.account_laws.steps_stay_kept.Goals as goal

pub returns : goal.returns
returns c = all_kept c.not_dropped_is_taken.ensures c.neighbours_stay_of_link.ensures c.elections_come_about.ensures c.description_keeps_router.ensures c.answers_are_quiet.ensures c.repeats_are_quiet.ensures c.area_stays_sound.ensures c.own_stay_sound.ensures
