use Rattle.ospf_router.proofs.AreaStep.SenderLemmas.{not_dropped}
use Rattle.ospf_router.proofs.step.senders.not_dropped_is_taken.Goals as goal

pub returns : goal.returns
returns c = not_dropped
