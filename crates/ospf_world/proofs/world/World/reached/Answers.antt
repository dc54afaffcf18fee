use Rattle.ospf_world.proofs.ExactFacts.{exact_reached}
use Rattle.ospf_world.proofs.world.World.reached.Goals as goal

pub returns : goal.returns
returns c = rw (← c.self.view_is) (exact_reached c.self.inside.parts c.self.invariant)
