use Rattle.std.proofs.Common.{rules, sym, subst, ◌≡◌, true, is_some}
use Rattle.ospf_world.specs.Slots.{SlotValue}
use Rattle.ospf_world.proofs.SlotFacts.{stops}
use Rattle.ospf_world.proofs.slot.Slot.stop.Goals as goal

pub returns : goal.returns
returns c =
    let h : is_some c.args.self.now.running ≡ true = search rules in
    let stopped = stops c.self.inside.config c.self.inside.running (subst (λ (s : SlotValue). is_some s.running ≡ true) (sym c.self.view_is) h) in
    rw (← c.self.view_is) (search stopped)
