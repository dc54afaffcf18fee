use Rattle.ospf_router.proofs.StepLaws.Accounted.{of_steps, tables}
use Rattle.ospf_router.proofs.StepLaws.Lists.{of_lists}
use Rattle.ospf_router.specs.Laws.{TableLaw}
use Rattle.ospf_router.proofs.laws.table_law.Goals as goal

pub returns : goal.returns
returns c = record {
  steps = search (of_steps TableLaw tables);
  lists = search (of_lists TableLaw (of_steps TableLaw tables c.steps_are_lawful.ensures));
}
