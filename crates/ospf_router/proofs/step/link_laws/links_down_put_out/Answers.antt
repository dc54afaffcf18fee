use Rattle.ospf_router.proofs.AreaStep.Parts.{down_puts}
use Rattle.ospf_router.proofs.step.link_laws.links_down_put_out.Goals as goal

pub returns : goal.returns
returns c = down_puts
