use Rattle.ospf_router.proofs.AreaStep.PutParts.{flushes_put}
use Rattle.ospf_router.proofs.step.part_laws.flushes_put_out.Goals as goal

pub returns : goal.returns
returns c = flushes_put
