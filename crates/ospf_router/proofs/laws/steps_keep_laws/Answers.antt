use Rattle.ospf_router.proofs.StepLaws.Accounted.{of_steps}
use Rattle.ospf_router.proofs.StepLaws.All.{all_laws}
use Rattle.ospf_router.proofs.StepLaws.Lists.{of_lists}
use Rattle.ospf_router.specs.Laws.{KeepsLaws}
use Rattle.ospf_router.proofs.laws.steps_keep_laws.Goals as goal

pub returns : goal.returns
returns c = record {
  steps = of_steps KeepsLaws all_laws c.steps_are_lawful.ensures;
  lists = of_lists KeepsLaws (of_steps KeepsLaws all_laws c.steps_are_lawful.ensures) c.steps_stay_kept.ensures;
}
