use Rattle.ospf_router.proofs.AreaStep.Turns.{description_told}
use Rattle.ospf_router.proofs.step.link_laws.descriptions_put_out.Goals as goal

pub returns : goal.returns
returns c = description_told
