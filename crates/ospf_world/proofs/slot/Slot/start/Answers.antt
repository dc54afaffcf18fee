use Rattle.std.proofs.Common.{rules, sym, ap, subst, length, ◌∙◌, ◌≡◌, is_some, false}
use Rattle.ospf_world.specs.Slots.{SlotValue}
use Rattle.ospf_world.proofs.SlotFacts.{runs_already, starts}
use Rattle.ospf_world.proofs.slot.Slot.start.Goals as goal

pub returns-then-runs : goal.returns-then-runs
returns-then-runs c = runs_already _ _ _ _ (sym c.runs.ensures ∙ c.if-runs.true)

pub returns-in-Ok : goal.returns-in-Ok
returns-in-Ok c = rw (← c.self.view_is) (starts _ _ _ _ c.self.inside.config c.self.inside.running c.in-Ok.running (ap length c.issued.ensures) (subst (λ (s : SlotValue). is_some s.running ≡ false) (sym c.self.view_is) (sym c.runs.ensures ∙ c.if-runs.false)) c.in-Ok.ensures.above (search rules))
