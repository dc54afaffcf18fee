use Rattle.ospf_router.proofs.StepLaws.Accounted.{of_steps}
use Rattle.ospf_router.proofs.StepLaws.All.{acknowledgements}
use Rattle.ospf_router.proofs.StepLaws.Lists.{of_lists}
use Rattle.ospf_router.specs.Laws.{AcknowledgementLaw}
use Rattle.ospf_router.proofs.laws.acknowledgement_law.Goals as goal

pub returns : goal.returns
returns c = record {
  steps = search (of_steps AcknowledgementLaw acknowledgements);
  lists = search (of_lists AcknowledgementLaw (of_steps AcknowledgementLaw acknowledgements c.steps_are_lawful.ensures));
}
