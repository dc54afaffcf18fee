use Rattle.std.proofs.Common.{◌∙◌, ap, sym}
use Rattle.std.specs.List.{list_any}
use Rattle.std.specs.Prelude.{◌&&◌}
use Rattle.ospf_views.specs.Offered.{is_delivery_to}
use Rattle.ospf_world.specs.Rounds.{offers_of}
use Rattle.ospf_views.proofs.offered.is_for_link.Goals as goal

pub returns : goal.returns
returns c =
    let offered = c.has_delivery.ensures ∙ ap (list_any (is_delivery_to c.args.place.0 c.args.place.1)) (c.deref.ensures.value ∙ c.in_ok-offers.ensures) in
    let rest = list_any (is_delivery_to c.args.place.0 c.args.place.1) (offers_of c.args.world.now.slots c.args.number c.args.datagram.now) in
    offered ∙ sym (ap (λ b. b && rest) (sym c.is_sent_by.ensures ∙ c.if-not-is_sent_by.false))
