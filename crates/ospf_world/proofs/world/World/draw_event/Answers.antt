use Rattle.std.proofs.Common.{◌≡◌, List, Some, None, length, ap, sym, ◌∙◌}
use Rattle.ospf_world.specs.Draws.{chosen_of}
use Rattle.ospf_world.specs.Slots.{SlotValue}
use Rattle.ospf_world.proofs.RandomFacts.{drawn_here, drawn_none}
use Rattle.ospf_world.proofs.world.World.draw_event.Goals as goal

pub returns-in_err-place : goal.returns-in_err-place
returns-in_err-place c =
    let words = c.args.words.now in
    let none : chosen_of words.router (length c.args.self.now.slots) ≡ None =
    ap (λ (xs : List SlotValue). chosen_of words.router (length xs)) (sym c.slots-slots.ensures) ∙ sym c.chosen.ensures.chosen ∙ c.in_err-place.was in
    c.from_residual.ensures ∙ sym (drawn_none words c.args.self.now none)

pub returns : goal.returns
returns c =
    let words = c.args.words.now in
    let is : chosen_of words.router (length c.slots-slots.result.now) ≡ Some c.in_ok-place.place = sym c.chosen.ensures.chosen ∙ c.in_ok-place.was in
    c.drawn_at.ensures
    ∙ drawn_here words c.args.self.now c.slots-slots.result.now c.in_ok-place.place c.index-slots-place.result c.config-config.result.now c.len.result c.runs.result c.datagrams.result.now
    c.slots-slots.ensures is c.in_ok-place.ensures.within c.index-slots-place.is c.config-config.ensures c.len.ensures c.runs.ensures c.datagrams.ensures
