use Rattle.ospf_router.proofs.AreaStep.Chains.{requests_put}
use Rattle.ospf_router.proofs.step.part_laws.next_requests_put_out.Goals as goal

pub returns : goal.returns
returns c = requests_put
