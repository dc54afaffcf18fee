use Rattle.ospf_router.proofs.AreaStep.Parts.{hello_puts}
use Rattle.ospf_router.proofs.step.link_laws.hellos_put_out.Goals as goal

pub returns : goal.returns
returns c f p h named s t out out' = hello_puts f h named s t out out'
