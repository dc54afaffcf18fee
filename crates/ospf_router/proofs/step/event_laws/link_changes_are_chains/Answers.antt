use Rattle.std.proofs.Common.{refl}
use Rattle.ospf_router.proofs.AreaStep.StepChains.{up_chain, down_chain}
use Rattle.ospf_router.proofs.step.event_laws.link_changes_are_chains.Goals as goal

pub returns : goal.returns
returns c = record { up = λ l s out rest u out' read next. up_chain l rest s _ u out _ out' next read refl refl; down = down_chain }
