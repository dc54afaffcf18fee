-- What a Database Description, and a request list that has changed, make of a neighbour (RFC 2328,
-- sections 10.6, 10.8 and 10.9).
use Rattle.std.specs.Prelude.{◌++◌, ◌∷◌, ◌&&◌, ◌||◌, not, nat_lt, [], Bool, true, false, List, Result, Ok, Err, if◌then◌else◌}
use Rattle.ospf_base.specs.declared.ids.RouterId.{RouterId}
use Rattle.ospf_neighbour.specs.declared.iface.machine.Iface.{Iface}
use Rattle.ospf_lsa.specs.declared.header.LsaHeader.{LsaHeader}
use Rattle.ospf_lsdb.specs.Database.{Held}
use Rattle.ospf_neighbour.specs.Neighbour.{NeighbourValue}
use Rattle.ospf_neighbour.specs.declared.machine.NbrEvent.{NbrEvent}
use Rattle.ospf_neighbour.specs.declared.machine.NbrEvent.TheVariants.{TwoWayReceived, SeqNumberMismatch}
use Rattle.ospf_neighbour.specs.declared.machine.NeighbourState.{NeighbourState}
use Rattle.ospf_neighbour.specs.declared.machine.NeighbourState.TheVariants.{Init}
use Rattle.ospf_packet.specs.declared.body.Description.{Description}
use Rattle.ospf_exchange.specs.Exchange.{after_dd, dd_answer}
use Rattle.ospf_exchange.specs.Laws.{is_not_taken}
use Rattle.ospf_exchange.specs.declared.description.DdAnswer.{DdAnswer}
use Rattle.ospf_exchange.specs.declared.description.DdAnswer.TheVariants as answer
use Rattle.ospf_exchange.specs.declared.fault.ExchangeFault.{ExchangeFault}
use Rattle.ospf_exchange.specs.declared.fault.ExchangeFault.TheVariants as fault
use Rattle.ospf_exchange.specs.declared.rule.Local.{Local}
use Rattle.ospf_adjacency.specs.Adjacency.{wants_adjacency, begins_by, event_taken, number_by}
use Rattle.ospf_area.specs.Packets.{packet_if, dd_packet}
use Rattle.ospf_area.specs.Turns.{Turn, request_turn}

-- an event, and the first DD packet where it begins an adjacency (10.3, 10.8)
abbrev pub event_turn : Iface → Local → NbrEvent → Turn → Turn
event_turn i local e t = record {
  neighbour = event_taken e i.settings.dead t.next local.tick t.neighbour;
  next = number_by e t.neighbour t.next;
  sent =
      t.sent
      ++ packet_if (begins_by e t.neighbour)
      (dd_packet i local.mtu (event_taken e i.settings.dead t.next local.tick t.neighbour));
}

-- ---- Database Descriptions

-- the neighbour is in Init (10.1)
abbrev pub is_init : NeighbourState → Bool
is_init Init = true
is_init _ = false

-- the last DD packet goes out again, and counts as sent at this tick (10.8)
abbrev pub dd_repeated : Iface → Local → Turn → Turn
dd_repeated i local t =
    let n = t.neighbour in
    let m = record n { exchanging = record n.exchanging { sent_at = local.tick } } in
    record t { neighbour = m; sent = t.sent ++ dd_packet i local.mtu m ∷ [] }

-- what follows an answer (10.6, 10.8): the slave's last packet goes out again; or the next packet
-- does, before a Request; or SeqNumberMismatch restarts the adjacency
abbrev pub answered_turn : Result DdAnswer ExchangeFault → Iface → Local → Turn → Turn
answered_turn (Ok answer.NotTaken) i local t = t
answered_turn (Ok answer.PassedOver) i local t = t
answered_turn (Ok answer.Repeats) i local t = dd_repeated i local t
answered_turn (Ok answer.Sends) i local t =
    request_turn i local (record t { sent = t.sent ++ dd_packet i local.mtu t.neighbour ∷ [] })
answered_turn (Ok answer.Ends) i local t = request_turn i local t
answered_turn (Err fault.Mismatch) i local t = event_turn i local SeqNumberMismatch t
answered_turn (Err _) i local t = t

-- a Database Description: nothing is done where its MTU is over the interface's. In Init it is
-- 2-WayReceived first; then it is looked at in the neighbour's state (10.6)
abbrev pub description_turn : Iface → Local → RouterId → Description → List LsaHeader → List Held
    → Turn → Turn
description_turn i local sender d headers db t =
    if nat_lt local.mtu d.mtu then t
    else
    let greets = TwoWayReceived (wants_adjacency i t.neighbour.address) in
    let u = (if is_init t.neighbour.state then event_turn i local greets t else t) in
    answered_turn (dd_answer local sender d headers u.neighbour) i local
    (record u { neighbour = after_dd local sender d headers db u.neighbour })

-- it is dropped: its MTU is over the interface's, or there is no exchange and it begins none. In
-- Init it is 2-WayReceived and so not dropped (10.6)
abbrev pub dd_dropped : Local → RouterId → Description → List LsaHeader → NeighbourValue → Bool
dd_dropped local sender d headers n =
    nat_lt local.mtu d.mtu
    || (not (is_init n.state) && is_not_taken (dd_answer local sender d headers n))
