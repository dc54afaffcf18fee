-- Which events are dropped, and why (RFC 2328, section 8.2).
use Rattle.std.specs.Prelude.{Bool, Option, None, Some, is_some, slice_get}
use Rattle.ospf_area.specs.Sending.{context_of}
use Rattle.ospf_area.specs.State.{AreaValue}
use Rattle.ospf_router.specs.AreaStep.Step.{Event}
use Rattle.ospf_router.specs.AreaStep.Step.Event.{Datagram, Tick, LinkUp, LinkDown}
use Rattle.ospf_packet.specs.PacketOf.{packet_of}
use Rattle.ospf_router.specs.AreaStep.Receipt.{drop_of_packet}
use Rattle.ospf_router.specs.declared.step.dropped.Dropped.{Dropped}
use Rattle.ospf_router.specs.declared.step.dropped.Dropped.TheVariants as dropped
use Rattle.ospf_area.specs.Outboxes.{local_by}

-- why an event is dropped, if it is: only datagrams are. One that comes in on a link that does not
-- exist is, and bytes that are no packet are, as `Packet`
abbrev pub dropped_by : Event → AreaValue → Option Dropped
dropped_by (Datagram link source destination bytes) s = elim (slice_get s.links link) [
  | None ↦ Some dropped.Packet
  | Some there ↦ elim (packet_of bytes) [
    | None ↦ Some dropped.Packet
    | Some m ↦
        let local = local_by (context_of s) there.settings in
        drop_of_packet local there.iface there.neighbours s.area source destination m
  ]
]
dropped_by Tick s = None
dropped_by (LinkUp link) s = None
dropped_by (LinkDown link) s = None

-- the event is dropped
abbrev pub is_dropped : Event → AreaValue → Bool
is_dropped e s = is_some (dropped_by e s)
