use Rattle.ospf_router.proofs.AreaStep.PutParts.{ages_put}
use Rattle.ospf_router.proofs.step.part_laws.ages_put_out.Goals as goal

pub returns : goal.returns
returns c = ages_put
