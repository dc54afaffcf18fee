use Rattle.ospf_router.proofs.StepLaws.Accounted.{of_steps}
use Rattle.ospf_router.proofs.StepLaws.All.{issues}
use Rattle.ospf_router.proofs.StepLaws.Lists.{of_lists}
use Rattle.ospf_router.specs.Laws.{IssueLaw}
use Rattle.ospf_router.proofs.laws.issue_law.Goals as goal

pub returns : goal.returns
returns c = record {
  steps = search (of_steps IssueLaw issues);
  lists = search (of_lists IssueLaw (of_steps IssueLaw issues c.steps_are_lawful.ensures));
}
