use Rattle.ospf_world.proofs.ToldFacts.{told_once}
use Rattle.ospf_commands.proofs.commands.run_event.Goals as goal

pub returns-clause-told : goal.returns-clause-told
returns-clause-told g c = told_once _ _ _ _ _ _ c.step_watched.ensures.told
