-- The state of one neighbour in a part of a step, and what follows from its request list (RFC
-- 2328, sections 10.3 and 10.9).
use Rattle.std.specs.Prelude.{◌++◌, ℕ, List, []}
use Rattle.std.specs.List.{flat_map}
use Rattle.ospf_exchange.specs.Requests.{asked_next, request_due}
use Rattle.ospf_exchange.specs.declared.rule.Local.{Local}
use Rattle.ospf_neighbour.specs.declared.iface.machine.Iface.{Iface}
use Rattle.ospf_neighbour.specs.Neighbour.{NeighbourValue}
use Rattle.ospf_neighbour.specs.declared.machine.NbrEvent.TheVariants as event
use Rattle.ospf_area.specs.Asking.{turned_to_next}
use Rattle.ospf_area.specs.Packets.{PendingPacket, packet_if, request_packet}
use Rattle.ospf_area.specs.Outboxes.{OutboxValue}
use Rattle.ospf_area.specs.Changes.{after_event}

-- a neighbour in a part of a step, with the router's next DD number, and what goes out
pub record Turn : Type 0 where
  pub neighbour : NeighbourValue
  pub next : ℕ
  pub sent : List PendingPacket

-- a neighbour, and what a part leaves besides it
abbrev pub turn : NeighbourValue → OutboxValue → Turn
turn n p = record { neighbour = n; next = p.next; sent = p.sent }

-- LoadingDone where nothing is left to request, and the next Request where one is due (10.3, 10.9)
abbrev pub request_turn : Iface → Local → Turn → Turn
request_turn i local t =
    let m = after_event event.LoadingDone 0 t.neighbour in
    record t {
      neighbour = turned_to_next local.mtu local.tick t.neighbour;
      sent =
          t.sent
          ++ packet_if (request_due m) (request_packet i (asked_next local.mtu local.tick m));
    }

-- the next Request of a neighbour, where one is due (10.9)
abbrev pub next_packets : Iface → Local → NeighbourValue → List PendingPacket
next_packets i local n = (request_turn i local (record { neighbour = n; next = 0; sent = [] })).sent

-- the next Requests of neighbours
abbrev pub all_next_packets : Iface → Local → List NeighbourValue → List PendingPacket
all_next_packets i local ns = flat_map (next_packets i local) ns
