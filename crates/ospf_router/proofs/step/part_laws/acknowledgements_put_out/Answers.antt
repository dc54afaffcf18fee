use Rattle.ospf_router.proofs.AreaStep.PutParts.{acknowledgements_put}
use Rattle.ospf_router.proofs.step.part_laws.acknowledgements_put_out.Goals as goal

pub returns : goal.returns
returns c = acknowledgements_put
