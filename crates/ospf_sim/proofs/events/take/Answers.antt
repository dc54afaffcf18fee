use Rattle.ospf_sim.proofs.EventFacts.{put_elsewhere}
use Rattle.ospf_sim.proofs.events.take.Goals as goal

pub returns-in-Some-clause-others : goal.returns-in-Some-clause-others
returns-in-Some-clause-others c = λ q differs. put_elsewhere _ _ c.args.router q _ (c.in-Some.ensures.updates.0 q) differs
