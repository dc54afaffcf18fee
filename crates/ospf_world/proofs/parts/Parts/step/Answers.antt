use Rattle.std.proofs.Common.{◌<◌, length, rules, refl, sym, ap, set, subst, ◌∙◌}
use Rattle.std.proofs.lemmas.Option.{get_or_from_slice_get}
use Rattle.ospf_world.specs.Does.{Does}
use Rattle.ospf_world.specs.Networks.{links_on}
use Rattle.ospf_world.specs.Worlds.{place_in}
use Rattle.ospf_world.specs.Slots.{SlotSteps}
use Rattle.ospf_base.specs.Events.Events.{router_in}
use Rattle.ospf_world.proofs.PlaceFacts.{placed, at_within}
use Rattle.ospf_world.proofs.ComesFacts.{steps_in}
use Rattle.ospf_world.proofs.parts.Parts.step.Goals as goal

pub index_mut-slot-requires : goal.index_mut-slot-requires
index_mut-slot-requires c =
    let h : c.in-Some.place < length c.self.inside.slots.items = at_within c.self.inside.slots.items _ _ (placed _ _ _ (sym (c.self.invariant.0 (router_in c.args.event.now).0) ∙ (ap (λ r. place_in c.self.inside.places r.0) (sym c.router.ensures) ∙ (sym c.place.ensures ∙ c.in-Some.is)))) in
    search rules

pub invariant_of-self : goal.invariant_of-self
invariant_of-self c =
    let steps = (steps_in c.args.event.now (record { slots = c.self.inside.slots.items; logs = c.self.inside.logs; ticks = c.self.inside.ticks.items; offered = c.self.inside.offered }) (record { slots = (set c.self.inside.slots.items c.in-Some.place c.step_slot.new.slot); logs = c.step_slot.new.logs; ticks = c.step_slot.new.ticks.items; offered = c.self.inside.offered }) c.in-Some.place c.step_slot.result (sym (c.self.invariant.0 (router_in c.args.event.now).0) ∙ (ap (λ r. place_in c.self.inside.places r.0) (sym c.router.ensures) ∙ (sym c.place.ensures ∙ c.in-Some.is))) refl c.step_slot.ensures.ticks (λ before at. (c.step_slot.new.slot, refl, subst (λ s. SlotSteps c.args.event.now s c.self.inside.logs c.step_slot.result c.step_slot.new.slot c.step_slot.new.logs) (c.index_mut-slot.ensures.value ∙ get_or_from_slice_get c.self.inside.slots.items c.in-Some.place before _ at) c.step_slot.ensures.steps))) in
    ((λ r. c.self.invariant.0 r ∙ sym (steps.1 r)), λ network. c.self.invariant.1 network ∙ ap (links_on network 0) (sym steps.2))

pub returns-in-Some : goal.returns-in-Some
returns-in-Some c = rw (← c.self.view_is) (steps_in c.args.event.now (record { slots = c.self.inside.slots.items; logs = c.self.inside.logs; ticks = c.self.inside.ticks.items; offered = c.self.inside.offered }) (record { slots = (set c.self.inside.slots.items c.in-Some.place c.step_slot.new.slot); logs = c.step_slot.new.logs; ticks = c.step_slot.new.ticks.items; offered = c.self.inside.offered }) c.in-Some.place c.step_slot.result (sym (c.self.invariant.0 (router_in c.args.event.now).0) ∙ (ap (λ r. place_in c.self.inside.places r.0) (sym c.router.ensures) ∙ (sym c.place.ensures ∙ c.in-Some.is))) refl c.step_slot.ensures.ticks (λ before at. (c.step_slot.new.slot, refl, subst (λ s. SlotSteps c.args.event.now s c.self.inside.logs c.step_slot.result c.step_slot.new.slot c.step_slot.new.logs) (c.index_mut-slot.ensures.value ∙ get_or_from_slice_get c.self.inside.slots.items c.in-Some.place before _ at) c.step_slot.ensures.steps))).0

pub returns-in-None : goal.returns-in-None
returns-in-None c = rw (← c.self.view_is) (Does.NoRouter (sym (c.self.invariant.0 (router_in c.args.event.now).0) ∙ (ap (λ r. place_in c.self.inside.places r.0) (sym c.router.ensures) ∙ (sym c.place.ensures ∙ c.in-None.is))) refl refl)
