use Rattle.ospf_router.proofs.AreaStep.StepLawful.{all_lawful}
use Rattle.ospf_router.proofs.step.account_laws.steps_are_lawful.Goals as goal

pub returns : goal.returns
returns c = all_lawful c.neighbours_stay_of_link.ensures c.elections_come_about.ensures c.repeats_are_quiet.ensures c.area_stays_sound.ensures
