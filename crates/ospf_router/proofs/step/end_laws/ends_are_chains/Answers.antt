use Rattle.ospf_router.proofs.AreaStep.StepChains.{ends_put}
use Rattle.ospf_router.proofs.step.end_laws.ends_are_chains.Goals as goal

pub returns : goal.returns
returns c = ends_put
