use Rattle.std.proofs.Common.{◌≡◌, ◌++◌, List, OnOk, subst}
use Rattle.ospf_base.specs.declared.event.event.WorldEvent.{WorldEvent}
use Rattle.ospf_world.proofs.OfferFacts.{at_no_slot, at_slot}
use Rattle.ospf_world.proofs.offers.push_offer.Goals as goal

pub returns-in-Some : goal.returns-in-Some
returns-in-Some c =
    let found = c.in-Some.ensures.lookup in
    subst (λ (es : List WorldEvent). OnOk c.push_on_link.result (c.push_on_link.new.events.items ≡ c.args.events.now.items ++ es))
    (at_slot c.args.datagram c.args.from.now c.args.sent.now c.args.slots.now c.args.at.now c.in-Some.slot.now found.3.0 found.1) c.push_on_link.ensures

pub returns-in-None : goal.returns-in-None
returns-in-None c = at_no_slot c.args.datagram c.args.from.now c.args.sent.now c.args.slots.now c.args.at.now c.args.events.now.items c.in-None.ensures.lookup.3
