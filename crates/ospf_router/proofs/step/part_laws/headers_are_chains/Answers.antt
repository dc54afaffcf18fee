use Rattle.ospf_router.proofs.AreaStep.PutParts.{headers_put}
use Rattle.ospf_router.proofs.step.part_laws.headers_are_chains.Goals as goal

pub returns : goal.returns
returns c = headers_put
