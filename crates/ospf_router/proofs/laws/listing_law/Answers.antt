use Rattle.ospf_router.proofs.StepLaws.Accounted.{of_steps}
use Rattle.ospf_router.proofs.StepLaws.All.{listings}
use Rattle.ospf_router.proofs.StepLaws.Lists.{of_lists}
use Rattle.ospf_router.specs.Laws.{ListingLaw}
use Rattle.ospf_router.proofs.laws.listing_law.Goals as goal

pub returns : goal.returns
returns c = record {
  steps = search (of_steps ListingLaw listings);
  lists = search (of_lists ListingLaw (of_steps ListingLaw listings c.steps_are_lawful.ensures));
}
