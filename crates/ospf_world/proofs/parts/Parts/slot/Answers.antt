use Rattle.std.proofs.Common.{◌∙◌, ◌<◌, Some, ap, length, rules, sym}
use Rattle.std.proofs.lemmas.Option.{slice_get-get_or}
use Rattle.ospf_world.specs.Slots.{SlotValue}
use Rattle.ospf_world.proofs.PlaceFacts.{at_within, not_placed, placed, slot_at}
use Rattle.ospf_world.proofs.parts.Parts.slot.Goals as goal

pub index-requires : goal.index-requires
index-requires c = let h : c.in-Some.place < length c.self.inside.slots.items = at_within c.self.inside.slots.items _ _ (placed _ _ _ (sym (c.self.invariant.0 c.args.router.0) ∙ (sym c.place.ensures ∙ c.in-Some.is))) in search rules

pub returns-in-Some-clause-some : goal.returns-in-Some-clause-some
returns-in-Some-clause-some c =
    let slots = c.self.inside.slots.items in
    let at = placed slots c.args.router.0 c.in-Some.place (sym (c.self.invariant.0 c.args.router.0) ∙ (sym c.place.ensures ∙ c.in-Some.is)) in
    let stands = slice_get-get_or slots c.in-Some.place c.index.result.now (at_within slots _ _ at) ∙ ap (λ (s : SlotValue). Some s) (sym c.index.ensures) in
    rw (← c.self.view_is) ((slot_at slots c.args.router.0 c.in-Some.place c.index.result.now at stands).0)

pub returns-in-None-clause-none : goal.returns-in-None-clause-none
returns-in-None-clause-none c =
    let none = not_placed c.self.inside.slots.items c.args.router.0 0 (sym (c.self.invariant.0 c.args.router.0) ∙ (sym c.place.ensures ∙ c.in-None.is)) in
    λ _. rw (← c.self.view_is) none
