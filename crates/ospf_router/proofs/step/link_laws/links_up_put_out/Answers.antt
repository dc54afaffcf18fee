use Rattle.ospf_router.proofs.AreaStep.Parts.{up_puts}
use Rattle.ospf_router.proofs.step.link_laws.links_up_put_out.Goals as goal

pub returns : goal.returns
returns c = up_puts
