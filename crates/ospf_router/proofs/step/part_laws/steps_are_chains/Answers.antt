use Rattle.ospf_router.proofs.AreaStep.Chains.{step_from_chain}
use Rattle.ospf_router.proofs.step.part_laws.steps_are_chains.Goals as goal

pub returns : goal.returns
returns c = step_from_chain
