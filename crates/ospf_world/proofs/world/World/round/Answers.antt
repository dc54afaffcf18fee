use Rattle.ospf_world.proofs.RoundFacts.{round_is}
use Rattle.ospf_world.proofs.world.World.round.Goals as goal

pub returns-clause-round : goal.returns-clause-round
returns-clause-round c = round_is _ _ _ c.round_of.ensures.round
