use Rattle.ospf_world.proofs.SlotFacts.{stops_short_with}
use Rattle.ospf_world.proofs.slot.Slot.hand.Goals as goal

pub returns-in-Err : goal.returns-in-Err
returns-in-Err c = rw (← c.self.view_is) (stops_short_with _ _ _ _ _ _ _ _ _ c.in-Some.is c.self.invariant c.in-Err.ensures.memory c.in-Err.ensures.none c.end.ensures.ended c.end.ensures.fault)
