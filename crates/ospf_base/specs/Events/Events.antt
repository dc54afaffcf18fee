-- Where an event of a network happens.
use Rattle.ospf_base.specs.declared.ids.RouterId.{RouterId}
use Rattle.ospf_base.specs.declared.event.event.WorldEvent.{WorldEvent}
use Rattle.ospf_base.specs.declared.event.event.WorldEvent.TheVariants.{Start, Stop, Tick, LinkUp, LinkDown, Deliver}

-- the router that an event happens at
abbrev pub router_in : WorldEvent → RouterId
router_in (Start r dd floor) = r
router_in (Stop r) = r
router_in (Tick r) = r
router_in (LinkUp r l) = r
router_in (LinkDown r l) = r
router_in (Deliver d r l) = r
