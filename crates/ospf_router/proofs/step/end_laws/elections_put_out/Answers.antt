use Rattle.ospf_router.proofs.AreaStep.Elections.{elects_put}
use Rattle.ospf_router.proofs.step.end_laws.elections_put_out.Goals as goal

pub returns : goal.returns
returns c = elects_put
