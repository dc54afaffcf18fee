use Rattle.std.proofs.Common.{refl, rules}
use Rattle.ospf_world.proofs.SlotFacts.{begins_a_tick, steps_delivered, steps_fed, steps_fed_on, steps_started, steps_stopped}
use Rattle.ospf_world.proofs.slot.Slot.step.Goals as goal

pub returns-in-Start-clause-steps : goal.returns-in-Start-clause-steps
returns-in-Start-clause-steps c = rw c.in-Start.is (steps_started c.in-Start.router c.in-Start.dd_start c.in-Start.floor _ _ _ _ (search rules))

pub returns-in-Stop-clause-steps : goal.returns-in-Stop-clause-steps
returns-in-Stop-clause-steps c = rw c.in-Stop.is (steps_stopped c.in-Stop.router _ _ _ _ (search rules))

pub returns-in-Tick-clause-steps : goal.returns-in-Tick-clause-steps
returns-in-Tick-clause-steps c = rw c.in-Tick.is (steps_fed _ _ _ _ _ _ _ refl refl (search rules))

pub returns-in-LinkUp-clause-steps : goal.returns-in-LinkUp-clause-steps
returns-in-LinkUp-clause-steps c = rw c.in-LinkUp.is (steps_fed_on _ c.in-LinkUp.link _ _ _ _ _ _ refl refl (search rules))

pub returns-in-LinkDown-clause-steps : goal.returns-in-LinkDown-clause-steps
returns-in-LinkDown-clause-steps c = rw c.in-LinkDown.is (steps_fed_on _ c.in-LinkDown.link _ _ _ _ _ _ refl refl (search rules))

pub returns-in-Deliver-clause-steps : goal.returns-in-Deliver-clause-steps
returns-in-Deliver-clause-steps c = rw c.in-Deliver.is (steps_delivered c.in-Deliver.router _ _ _ _ _ _ _ (search rules))

pub returns-in-Tick-clause-begun : goal.returns-in-Tick-clause-begun
returns-in-Tick-clause-begun c = λ r is. begins_a_tick _ _ _ _ _ _ c.feed.ensures
