use Rattle.ospf_router.proofs.StepLaws.Accounted.{of_steps}
use Rattle.ospf_router.proofs.StepLaws.All.{admissions}
use Rattle.ospf_router.proofs.StepLaws.Lists.{of_lists}
use Rattle.ospf_router.specs.Laws.{AdmissionLaw}
use Rattle.ospf_router.proofs.laws.admission_law.Goals as goal

pub returns : goal.returns
returns c = record {
  steps = search (of_steps AdmissionLaw admissions);
  lists = search (of_lists AdmissionLaw (of_steps AdmissionLaw admissions c.steps_are_lawful.ensures));
}
