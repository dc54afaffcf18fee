use Rattle.ospf_router.proofs.AreaStep.Chains.{puts_none, puts_more}
use Rattle.ospf_router.proofs.step.part_laws.chains_put_out.Goals as goal

pub returns : goal.returns
returns c = record { none = puts_none; more = puts_more }
