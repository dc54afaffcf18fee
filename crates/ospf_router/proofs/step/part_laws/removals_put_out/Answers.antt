use Rattle.ospf_router.proofs.AreaStep.PutParts.{removals_put}
use Rattle.ospf_router.proofs.step.part_laws.removals_put_out.Goals as goal

pub returns : goal.returns
returns c = removals_put
