-- How acknowledgements are sent (RFC 2328, section 13.5): in order of
-- key, as many in a packet as fit.
use Rattle.std.specs.Prelude.{◌==◌, ◌&&◌, ◌||◌, ◌+◌, ◌-◌, ◌/◌, ℕ, zero, suc, min, Bool, List, [], ◌∷◌, drop, length, map, nat_lt, slice_get, take, if◌then◌else◌, None, Some}
use Rattle.std.specs.List.{flat_map, fold}
use Rattle.ospf_base.specs.Constants.{ip_header, lsa_header, packet_header}
use Rattle.ospf_base.specs.declared.ids.Addr.{Addr}
use Rattle.ospf_flood.specs.Links.{flooding_address}
use Rattle.ospf_lsa.specs.declared.header.LsaHeader.{LsaHeader}
use Rattle.ospf_packet.specs.Meaning as meaning
use Rattle.ospf_area.specs.Outputs.{SentValue}
use Rattle.ospf_area.specs.Packets.{PendingPacket}
use Rattle.ospf_area.specs.Sending.{datagrams, context_of, packet_from, to_address, way_out}
use Rattle.ospf_area.specs.State.{AreaValue, LinkValue}
use Rattle.ospf_area.specs.declared.flooding.PacketSource.{PacketSource}
use Rattle.ospf_area.specs.declared.sending.RouterContext.{RouterContext}
use Rattle.ospf_area.specs.declared.sending.Way.{Way}

-- ---- in order of key

-- by LS type, then by Link State ID, then by Advertising Router
abbrev pub header_precedes : LsaHeader → LsaHeader → Bool
header_precedes a b =
    nat_lt a.kind b.kind
    || ((a.kind == b.kind)
    && (nat_lt a.id b.id || ((a.id == b.id) && nat_lt a.router.0 b.router.0)))

-- a header after those that it does not precede
abbrev pub put_in_order : LsaHeader → List LsaHeader → List LsaHeader
put_in_order h [] = h ∷ []
put_in_order h (x ∷ xs) = if header_precedes h x then h ∷ x ∷ xs else x ∷ put_in_order h xs

-- headers in order, each put after those that it does not precede
abbrev pub in_order : List LsaHeader → List LsaHeader
in_order hs = fold (λ sorted h. put_in_order h sorted) [] hs

-- ---- as many in a packet as fit

-- how many headers an Acknowledgment has room for, after an IP header and a packet header
abbrev pub ack_room : ℕ → ℕ
ack_room mtu = (mtu - (ip_header + packet_header)) / lsa_header

-- this many at once, at most `n` times
unfoldable pub cut : ℕ → ℕ → List LsaHeader → List (List LsaHeader)
cut zero room hs = []
cut (suc n) room [] = []
cut (suc n) room (h ∷ hs) =
    take (min room (length (h ∷ hs))) (h ∷ hs)
    ∷ cut n room (drop (min room (length (h ∷ hs))) (h ∷ hs))

-- Acknowledgments of these headers in their order, as many in each as fit
abbrev pub acks_out : RouterContext → Way → ℕ → List LsaHeader → List SentValue
acks_out own way mtu hs =
    flat_map (λ chunk. datagrams way (packet_from own (meaning.acknowledgment chunk)))
    (cut (length (in_order hs)) (ack_room mtu) (in_order hs))

-- ---- as they are queued to be sent

-- an Acknowledgment of these headers to this address
abbrev pub ack_packet : Addr → List LsaHeader → PendingPacket
ack_packet destination hs = record { destination = destination; body = meaning.acknowledgment hs }

-- this many headers in each
abbrev pub packed_packets : Addr → ℕ → List LsaHeader → List PendingPacket
packed_packets destination room hs = map (ack_packet destination) (cut (length hs) room hs)

-- in order of key, as many in each as fit
abbrev pub ack_packets : Addr → ℕ → List LsaHeader → List PendingPacket
ack_packets destination mtu hs = packed_packets destination (ack_room mtu) (in_order hs)

-- ---- direct ones, at the end of an Update

-- to the neighbour that sent the Update, out of its link, if that is there
abbrev pub direct_out : PacketSource → AreaValue → List SentValue
direct_out f s = elim (slice_get s.links f.link) [
  | None ↦ []
  | Some link ↦
      acks_out (context_of s) (way_out f.link link.iface (to_address link.iface f.address))
      link.settings.mtu s.direct
]

-- ---- delayed ones, at the next tick

-- to where flooded Updates go: they wait on the link until then
abbrev pub delayed_out_on : RouterContext → ℕ → LinkValue → List SentValue
delayed_out_on own l link =
    acks_out own (way_out l link.iface (flooding_address link.iface)) link.settings.mtu link.delayed
