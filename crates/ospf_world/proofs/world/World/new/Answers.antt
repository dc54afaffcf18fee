use Rattle.ospf_world.proofs.ExactFacts.{opened_exact}
use Rattle.ospf_world.proofs.world.World.new.Goals as goal

pub invariant_of-result : goal.invariant_of-result
invariant_of-result c = opened_exact _ c.new.result _ c.new.ensures c.in_ok-parts.was
