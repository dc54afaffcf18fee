use Rattle.ospf_router.proofs.AreaStep.Turns.{request_puts}
use Rattle.ospf_router.proofs.step.link_laws.requests_put_out.Goals as goal

pub returns : goal.returns
returns c f p entries marks s t out out' = request_puts f entries marks s t out out'
