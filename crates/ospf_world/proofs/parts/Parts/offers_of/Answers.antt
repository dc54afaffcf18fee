use Rattle.std.proofs.Common.{List, ◌∙◌, ap}
use Rattle.std.specs.List.{flat_map}
use Rattle.std.proofs.lemmas.Result.{IfOk-weaker}
use Rattle.ospf_world.specs.Slots.{SlotValue}
use Rattle.ospf_world.specs.Rounds.{offer_at}
use Rattle.ospf_world.proofs.OfferFacts.{offers_near}
use Rattle.ospf_world.proofs.parts.Parts.offers_of.Goals as goal

pub returns-in-Some : goal.returns-in-Some
returns-in-Some c =
    let from_here = rw (← c.self.view_is) at c.source_of.ensures in
    rw (← c.self.view_is) (IfOk-weaker c.offers_at.result _ _ (λ events are. offers_near c.self.inside.networks c.self.inside.slots.items c.args.place c.network_of.result c.in-Some.from c.args.sent.now c.links_at-links.result.now events.items _
    c.self.invariant.1 from_here c.in-Some.is c.network_of.ensures c.links_at-links.ensures
    (are ∙ ap (λ (slots : List SlotValue). flat_map (offer_at c.args.place c.in-Some.from c.args.sent.now slots) c.links_at-links.result.now) c.deref.ensures.value)) c.offers_at.ensures)
