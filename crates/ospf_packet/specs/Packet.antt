-- What bytes are a packet, and what they say (RFC 2328, sections 8.2 and appendix A.3).
use Rattle.std.specs.Prelude.{◌≡◌, ℕ, ◌-◌, ◌/◌, ◌%◌, ◌≤◌, ◌==◌, if◌then◌else◌, List, length, drop, slice_index}
use Rattle.ospf_base.specs.Bytes.{number_at}
use Rattle.ospf_base.specs.Constants.{lsa_header, packet_header}
use Rattle.ospf_base.specs.Faults as faults
use Rattle.ospf_base.specs.Sums.{packet_checksum}
use Rattle.ospf_lsa.specs.Attached.{routers_in}
use Rattle.ospf_packet.specs.Fields.{hello_at, hello_fields, description_at, description_fields}
use Rattle.ospf_packet.specs.Headers.{headers_in}
use Rattle.ospf_packet.specs.Meaning.{BodyMeaning, hello, description, request, update, acknowledgment, Meaning, largest_packet}
use Rattle.ospf_packet.specs.Requests.{request_size, requests_in}
use Rattle.ospf_packet.specs.Slices.{AreSlices, slices_in}
use Rattle.ospf_packet.specs.declared.fault.PacketFault.{PacketFault}
use Rattle.ospf_packet.specs.declared.fault.PacketFault.TheVariants as fault

-- 1 Hello, 2 Database Description, 3 Link State Request, 4 Link State
-- Update, 5 Link State Acknowledgment
abbrev pub packet_type : List ℕ → ℕ
packet_type packet = slice_index packet 1

-- what follows the header (appendix A.3.1)
abbrev pub body_of : List ℕ → List ℕ
body_of packet = drop packet_header packet

-- the body ends with its last entry
pub record IsBody (kind : ℕ) (body : List ℕ) : Type 0 where
  pub hello_is : kind ≡ 1 → (hello_fields ≤ length body) × ((length body - hello_fields) % 4 ≡ 0)
  pub description_is : kind ≡ 2
      → (description_fields ≤ length body) × ((length body - description_fields) % lsa_header ≡ 0)
  pub request_is : kind ≡ 3 → length body % request_size ≡ 0
  pub update_is : kind ≡ 4 → (4 ≤ length body) × AreSlices (number_at 0 4 body) (drop 4 body)
  pub acknowledgment_is : kind ≡ 5 → length body % lsa_header ≡ 0

-- the bytes are free of this fault
abbrev pub IsPacketFreeOf : PacketFault → List ℕ → Type 0
IsPacketFreeOf fault.TooLong packet = length packet ≤ largest_packet
IsPacketFreeOf fault.Short packet = packet_header ≤ length packet
IsPacketFreeOf fault.Version packet = slice_index packet 0 ≡ 2
IsPacketFreeOf fault.Kind packet = (1 ≤ packet_type packet) × (packet_type packet ≤ 5)
IsPacketFreeOf fault.Length packet = number_at 2 2 packet ≡ length packet
IsPacketFreeOf fault.Sum packet = number_at 12 2 packet ≡ packet_checksum packet
IsPacketFreeOf fault.Auth packet = number_at 14 2 packet ≡ 0
IsPacketFreeOf fault.Body packet = IsBody (packet_type packet) (body_of packet)

-- the bytes are a packet
abbrev pub IsPacket : List ℕ → Type 0
IsPacket packet = (f : PacketFault) → IsPacketFreeOf f packet

-- the order in which faults are reported
abbrev pub fault_order : PacketFault → ℕ
fault_order fault.TooLong = 0
fault_order fault.Short = 1
fault_order fault.Version = 2
fault_order fault.Kind = 3
fault_order fault.Length = 4
fault_order fault.Sum = 5
fault_order fault.Auth = 6
fault_order fault.Body = 7

-- the bytes have this fault, and none that comes before it in that order
abbrev pub IsFirstPacketFault : List ℕ → PacketFault → Type 0
IsFirstPacketFault packet f = faults.IsFirstBroken fault_order (λ g. IsPacketFreeOf g packet) f

-- ---- what a packet says

-- what a body of this type says (appendix A.3.2 to A.3.6): any but types 1 to 4 is read as an
-- Acknowledgment, which is type 5, and a packet has no greater one
abbrev pub body_at : ℕ → List ℕ → BodyMeaning
body_at kind body =
    if kind == 1 then hello (hello_at body) (routers_in (drop hello_fields body))
    else if kind == 2
    then description (description_at body)
    (headers_in ((length body - description_fields) / lsa_header) (drop description_fields body))
    else if kind == 3 then request (requests_in (length body / request_size) body)
    else if kind == 4 then update (slices_in (number_at 0 4 body) (drop 4 body))
    else acknowledgment (headers_in (length body / lsa_header) body)

-- what the bytes of a packet say: the authentication means nothing, and an age
-- field above MaxAge means MaxAge
abbrev pub meaning_of : List ℕ → Meaning
meaning_of packet = record {
  router = record { 0 = number_at 4 4 packet };
  area = record { 0 = number_at 8 4 packet };
  body = body_at (packet_type packet) (body_of packet);
}
