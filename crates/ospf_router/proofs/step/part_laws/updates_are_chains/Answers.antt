use Rattle.ospf_router.proofs.AreaStep.Chains.{update_puts}
use Rattle.ospf_router.proofs.step.part_laws.updates_are_chains.Goals as goal

pub returns : goal.returns
returns c f slices rest s t u out mid_out out' = update_puts f slices rest s t u out mid_out out'
