-- What an event does to the router before the step ends (RFC 2328, sections
-- 9.3, 10.5 to 10.7, 13 and 13.7).
use Rattle.std.specs.Prelude.{ℕ, [], Option, None, Some, slice_get}
use Rattle.ospf_base.specs.declared.ids.Addr.{Addr}
use Rattle.ospf_area.specs.Outputs.{OutputsValue}
use Rattle.ospf_area.specs.Sending.{and_sends, context_of}
use Rattle.ospf_area.specs.State.{AreaValue}
use Rattle.ospf_area.specs.declared.flooding.PacketSource.{PacketSource}
use Rattle.ospf_router.specs.AreaStep.Ticks.{TakesTick}
use Rattle.ospf_adjacency.specs.Heard.{names}
use Rattle.ospf_router.specs.AreaStep.Puts.{headers_met}
use Rattle.ospf_router.specs.AreaStep.Step.{Event}
use Rattle.ospf_router.specs.AreaStep.Step.Event.{Datagram, Tick, LinkUp, LinkDown}
use Rattle.ospf_adjacency.specs.LinkSteps.Parts.{answered_on, description_part, hello_part, link_down, link_up, request_part}
use Rattle.ospf_adjacency.specs.LinkSteps.Repeats.{marked_all}
use Rattle.ospf_adjacency.specs.LinkSteps.Works.{WorksOn, link_changed, up_out_on}
use Rattle.ospf_packet.specs.Meaning.{BodyMeaning, Meaning, hello, description, request, update, acknowledgment}
use Rattle.ospf_packet.specs.PacketOf.{packet_of}
use Rattle.ospf_area.specs.Acting.{Becomes}
use Rattle.ospf_area.specs.Updates.Updates.{TakesUpdate}

-- ---- packets (8.2)

-- what a packet of this origin says is processed
abbrev pub TakesBody : BodyMeaning → PacketSource → AreaValue → OutputsValue → OutputsValue
    → AreaValue
    → Type 0
TakesBody (hello fields heard) f s out out' after =
    let part = hello_part (context_of s) f fields (names heard s.router) s.next_dd in
    WorksOn part f.link s out out' after
TakesBody (description fields headers) f s out out' after =
    let part = description_part (context_of s) f fields headers s.database s.next_dd in
    WorksOn part f.link s out out' after
-- the keys whose copies answer a Request are marked as sent in this tick (13, step 8)
TakesBody (request entries) f s out out' after =
    let answered = answered_on (slice_get s.links f.link) f.router s.database entries in
    let part = request_part (context_of s) f s.database entries s.next_dd in
    WorksOn part f.link (record s { sent = marked_all answered s.sent }) out out' after
TakesBody (update lsas) f s out out' after = TakesUpdate f lsas s out out' after
TakesBody (acknowledgment headers) f s out out' after =
    Becomes (headers_met f headers s) (and_sends out []) out' after

-- where a packet comes from
abbrev pub source_of : ℕ → Addr → Meaning → PacketSource
source_of link source m = record { link = link; router = m.router; address = source }

-- a datagram that is not dropped is a packet
abbrev pub TakesDatagram : ℕ → Addr → Option Meaning → AreaValue → OutputsValue → OutputsValue
    → AreaValue → Type 0
TakesDatagram link source None s out out' after = ⊥
TakesDatagram link source (Some m) s out out' after =
    TakesBody m.body (source_of link source m) s out out' after

-- ---- events

-- what an event that is not dropped does
abbrev pub TakesEvent : Event → AreaValue → OutputsValue → OutputsValue → AreaValue → Type 0
TakesEvent (Datagram link source destination bytes) s out out' after =
    TakesDatagram link source (packet_of bytes) s out out' after
TakesEvent Tick s out out' after = TakesTick s out out' after
TakesEvent (LinkUp link) s out out' after =
    Becomes (link_changed link_up link s)
    (and_sends out (up_out_on (slice_get s.links link) (context_of s) link)) out' after
TakesEvent (LinkDown link) s out out' after =
    Becomes (link_changed link_down link s) (and_sends out []) out' after
