use Rattle.ospf_sim.proofs.EventFacts.{put_elsewhere}
use Rattle.ospf_sim.proofs.events.put.Goals as goal

pub returns-in-Ok-clause-others : goal.returns-in-Ok-clause-others
returns-in-Ok-clause-others c = λ q differs. put_elsewhere _ _ c.args.router q _ (c.in-Ok.ensures.updates.0 q) differs
