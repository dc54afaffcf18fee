use Rattle.ospf_router.specs.AreaStep.Step.{Chain}
use Rattle.ospf_router.proofs.AreaStep.StepChains.{read_before}
use Rattle.ospf_router.proofs.step.tick_laws.outputs_before_are_read.Goals as goal

pub returns : goal.returns
returns c rest s t out out' p read = read_before (λ o. Chain rest s o t) out out' p read
