use Rattle.ospf_router.proofs.AreaStep.SenderLemmas.{senders}
use Rattle.ospf_router.proofs.step.senders.senders_are_neighbours.Goals as goal

pub returns : goal.returns
returns c = senders
