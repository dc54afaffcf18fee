use Rattle.ospf_router.proofs.AreaStep.Parts.{timers_put}
use Rattle.ospf_router.proofs.step.tick_laws.timers_put_out.Goals as goal

pub returns : goal.returns
returns c = timers_put
