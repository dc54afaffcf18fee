use Rattle.ospf_router.proofs.StepLaws.Accounted.{of_steps, retransmission}
use Rattle.ospf_router.proofs.StepLaws.Lists.{of_lists}
use Rattle.ospf_router.specs.Laws.{RetransmissionLaw}
use Rattle.ospf_router.proofs.laws.retransmission_law.Goals as goal

pub returns : goal.returns
returns c = record {
  steps = search (of_steps RetransmissionLaw retransmission);
  lists = search (of_lists RetransmissionLaw (of_steps RetransmissionLaw retransmission c.steps_are_lawful.ensures));
}
