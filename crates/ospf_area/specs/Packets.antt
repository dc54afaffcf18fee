-- What goes out on a link (RFC 2328, sections 8.1, 10.8 and 10.9).
use Rattle.std.specs.Prelude.{ℕ, List, [], ◌∷◌, Bool, if◌then◌else◌}
use Rattle.ospf_base.specs.Constants.{router_options}
use Rattle.ospf_base.specs.declared.ids.Addr.{Addr}
use Rattle.ospf_neighbour.specs.declared.iface.machine.Iface.{Iface}
use Rattle.ospf_neighbour.specs.Neighbour.{NeighbourValue}
use Rattle.ospf_packet.specs.Meaning.{BodyMeaning, description, update}
use Rattle.ospf_area.specs.Asking.{request_body}
use Rattle.ospf_area.specs.Sending.{to_address}

-- a packet that is to go out: where it goes, and what it says
pub record PendingPacket : Type 0 where
  pub destination : Addr
  pub body : BodyMeaning

-- a packet that goes out, or none
abbrev pub packet_if : Bool → PendingPacket → List PendingPacket
packet_if b p = if b then p ∷ [] else []

-- the last DD packet sent to the neighbour, or to be sent to it (10.8)
abbrev pub dd_packet : Iface → ℕ → NeighbourValue → PendingPacket
dd_packet i mtu n = record {
  destination = to_address i n.address;
  body =
      description
      (record {
        mtu = mtu;
        options = router_options;
        flags = n.exchanging.flags;
        number = n.exchanging.number;
      }) n.last_dd;
}

-- the last Request sent to the neighbour, or to be sent to it (10.9)
abbrev pub request_packet : Iface → NeighbourValue → PendingPacket
request_packet i n = record { destination = to_address i n.address; body = request_body n }

-- an Update of one LSA
abbrev pub lsa_packet : Addr → List ℕ → PendingPacket
lsa_packet destination lsa = record { destination = destination; body = update (lsa ∷ []) }
