use Rattle.ospf_router.proofs.AreaStep.Witness.{some_ticks}
use Rattle.ospf_router.proofs.step.account_laws.some_state_ticks.Goals as goal

pub returns : goal.returns
returns c = some_ticks
