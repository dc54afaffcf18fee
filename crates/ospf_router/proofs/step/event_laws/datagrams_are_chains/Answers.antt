use Rattle.ospf_router.proofs.AreaStep.StepChains.{arrival_hello, arrival_description, arrival_request, arrival_update, arrival_acknowledgment}
use Rattle.ospf_router.proofs.step.event_laws.datagrams_are_chains.Goals as goal

pub returns : goal.returns
returns c = record { hello = arrival_hello; description = arrival_description; request = arrival_request; update = arrival_update; acknowledgment = arrival_acknowledgment }
