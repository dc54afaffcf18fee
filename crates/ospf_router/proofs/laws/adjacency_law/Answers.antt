use Rattle.ospf_router.proofs.StepLaws.Accounted.{of_steps}
use Rattle.ospf_router.proofs.StepLaws.All.{adjacencies}
use Rattle.ospf_router.proofs.StepLaws.Lists.{of_lists}
use Rattle.ospf_router.specs.Laws.{AdjacencyLaw}
use Rattle.ospf_router.proofs.laws.adjacency_law.Goals as goal

pub returns : goal.returns
returns c = record {
  steps = search (of_steps AdjacencyLaw adjacencies);
  lists = search (of_lists AdjacencyLaw (of_steps AdjacencyLaw adjacencies c.steps_are_lawful.ensures));
}
