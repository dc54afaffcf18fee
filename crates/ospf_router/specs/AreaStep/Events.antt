-- What a router is stepped with, as the laws of a step read it (RFC
-- 2328, sections 8.2, 9.2 and 14).
use Rattle.ospf_router.specs.AreaStep.Step as laws
use Rattle.ospf_router.specs.declared.step.event.Event.{Event}
use Rattle.ospf_router.specs.declared.step.event.Event.TheVariants as given

-- the event as `Event` of `ospf_step/Step`: from one that the code has (`given`), a datagram
-- with the bytes that it points to, and all else unchanged
abbrev pub happening : Event → laws.Event
happening (given.Datagram link source destination bytes) =
    laws.Event.Datagram link source destination bytes.now
happening given.Tick = laws.Event.Tick
happening (given.LinkUp link) = laws.Event.LinkUp link
happening (given.LinkDown link) = laws.Event.LinkDown link
