use Rattle.std.proofs.Common.{sym, ap, ◌∙◌, ◌++◌, List}
use Rattle.ospf_base.specs.declared.event.event.WorldEvent.{WorldEvent}
use Rattle.ospf_world.proofs.OfferFacts.{at_link, no_link, nothing_more}
use Rattle.ospf_world.proofs.offers.push_on_link.Goals as goal

pub returns-in_default : goal.returns-in_default
returns-in_default c = no_link c.args.datagram c.args.from.now c.args.sent.now c.args.slot.now _ c.args.link c.args.events.now.items c.config-config.ensures c.in_default.ensures

pub returns-else-is_offered_to : goal.returns-else-is_offered_to
returns-else-is_offered_to c = nothing_more c.args.events.now.items _ (at_link c.args.datagram c.args.from.now c.in-Some.to c.args.sent.now c.args.slot.now _ c.args.link _ c.config-config.ensures c.in-Some.ensures c.if-is_offered_to.ensures)

pub returns-in_ok-push : goal.returns-in_ok-push
returns-in_ok-push c =
    c.in_ok-push.ensures.items ∙ ap (λ (es : List WorldEvent). c.args.events.now.items ++ es)
    (sym (at_link c.args.datagram c.args.from.now c.in-Some.to c.args.sent.now c.args.slot.now _ c.args.link _ c.config-config.ensures c.in-Some.ensures c.if-is_offered_to.ensures))
