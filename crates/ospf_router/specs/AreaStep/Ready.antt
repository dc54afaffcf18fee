-- What a router has so that a packet can be taken (RFC 2328, sections 10.5 and 10.7).
use Rattle.std.specs.Prelude.{⊤, ◌≡◌, ◌<◌, true, Some, None, length, slice_get}
use Rattle.ospf_area.specs.State.{AreaValue, LinkValue}
use Rattle.ospf_area.specs.declared.flooding.PacketSource.{PacketSource}
use Rattle.ospf_router.specs.AreaStep.Invariants.{NoneWaitsBelow}
use Rattle.ospf_router.specs.AreaStep.Step.{Event}
use Rattle.ospf_router.specs.AreaStep.Step.Event.{Datagram, Tick, LinkUp, LinkDown}
use Rattle.ospf_lsdb.specs.Database.{IsDatabase}
use Rattle.ospf_neighbour.specs.Machine.{is_exchanging}
use Rattle.ospf_neighbour.specs.Neighbour.{NeighbourValue}
use Rattle.ospf_neighbour.specs.Neighbours.{max_neighbours, neighbour_of}
use Rattle.ospf_packet.specs.Meaning.{BodyMeaning, Meaning, hello, description, request, update, acknowledgment}
use Rattle.ospf_packet.specs.PacketOf.{packet_of}

-- room for a new neighbour, and for a Request a neighbour in Exchange or above
abbrev pub CanTakeOn : BodyMeaning → PacketSource → LinkValue → Type 0
CanTakeOn (hello fields heard) f link =
    neighbour_of link.neighbours f.router ≡ None → length link.neighbours < max_neighbours
CanTakeOn (description fields headers) f link = ⊤
CanTakeOn (request entries) f link =
    (n : NeighbourValue) → neighbour_of link.neighbours f.router ≡ Some n
    → is_exchanging n.state ≡ true
CanTakeOn (update lsas) f link = ⊤
CanTakeOn (acknowledgment headers) f link = ⊤

-- it has that on the link that the packet came on
abbrev pub CanTakePacket : PacketSource → BodyMeaning → AreaValue → Type 0
CanTakePacket f body s =
    (link : LinkValue) → slice_get s.links f.link ≡ Some link → CanTakeOn body f link

-- the database is one, and nothing waits for the sender of a packet below Exchange (10.1)
abbrev pub IsReadyFor : Event → AreaValue → Type 0
IsReadyFor (Datagram link source destination bytes) s =
    (m : Meaning) → packet_of bytes ≡ Some m
    → IsDatabase s.database × NoneWaitsBelow s link m.router
IsReadyFor Tick s = ⊤
IsReadyFor (LinkUp link) s = ⊤
IsReadyFor (LinkDown link) s = ⊤
