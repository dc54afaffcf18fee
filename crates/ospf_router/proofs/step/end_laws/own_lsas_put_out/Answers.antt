use Rattle.ospf_router.proofs.AreaStep.OwnParts.{own_put}
use Rattle.ospf_router.proofs.step.end_laws.own_lsas_put_out.Goals as goal

pub returns : goal.returns
returns c = own_put
