use Rattle.ospf_router.proofs.StepLaws.Accounted.{of_steps, provenance}
use Rattle.ospf_router.proofs.StepLaws.Lists.{of_lists}
use Rattle.ospf_router.specs.Laws.{ProvenanceLaw}
use Rattle.ospf_router.proofs.laws.provenance_law.Goals as goal

pub returns : goal.returns
returns c = record {
  steps = search (of_steps ProvenanceLaw provenance);
  lists = search (of_lists ProvenanceLaw (of_steps ProvenanceLaw provenance c.steps_are_lawful.ensures));
}
