use Rattle.ospf_router.proofs.StepLaws.Accounted.{of_steps, drops}
use Rattle.ospf_router.proofs.StepLaws.Lists.{of_lists}
use Rattle.ospf_router.specs.Laws.{DropLaw}
use Rattle.ospf_router.proofs.laws.drop_law.Goals as goal

pub returns : goal.returns
returns c = record {
  steps = search (of_steps DropLaw drops);
  lists = search (of_lists DropLaw (of_steps DropLaw drops c.steps_are_lawful.ensures));
}
