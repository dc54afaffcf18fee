use Rattle.ospf_world.proofs.Witness.{some_world_ticks}
use Rattle.ospf_world.proofs.laws.some_world_ticks.Goals as goal

pub returns : goal.returns
returns c = some_world_ticks
