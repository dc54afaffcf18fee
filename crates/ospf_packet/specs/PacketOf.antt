-- What bytes say, if they are a packet.
use Rattle.std.specs.Prelude.{ℕ, zero, suc, ◌-◌, ◌%◌, ◌==◌, ◌&&◌, ◌||◌, Bool, not, nat_le, List, length, drop, slice_index, Option, Some, None, if◌then◌else◌}
use Rattle.ospf_base.specs.Bytes.{number_at}
use Rattle.ospf_base.specs.Constants.{largest_packet, lsa_header, packet_header}
use Rattle.ospf_base.specs.Sums.{packet_checksum}
use Rattle.ospf_packet.specs.Fields.{description_fields, hello_fields}
use Rattle.ospf_packet.specs.Meaning.{Meaning}
use Rattle.ospf_packet.specs.Packet.{meaning_of, packet_type, body_of}
use Rattle.ospf_packet.specs.Requests.{request_size}
use Rattle.ospf_packet.specs.Slices.{lsa_length}

-- the bytes are this many slices and nothing else, as a test (`AreSlices` of Slices)
abbrev pub are_slices : ℕ → List ℕ → Bool
are_slices zero bytes = length bytes == 0
are_slices (suc n) bytes =
    (nat_le lsa_header (length bytes)
    && (nat_le lsa_header (lsa_length bytes) && nat_le (lsa_length bytes) (length bytes)))
    && are_slices n (drop (lsa_length bytes) bytes)

-- where the first holds, the second does
abbrev pub implies : Bool → Bool → Bool
implies a b = not a || b

-- the body ends with its last entry, as a test (`IsBody` of Packet)
abbrev pub is_body : ℕ → List ℕ → Bool
is_body kind body =
    implies (kind == 1)
    (nat_le hello_fields (length body) && ((length body - hello_fields) % 4 == 0))
    && (implies (kind == 2)
    (nat_le description_fields (length body)
    && ((length body - description_fields) % lsa_header == 0))
    && (implies (kind == 3) (length body % request_size == 0)
    && (implies (kind == 4)
    (nat_le 4 (length body) && are_slices (number_at 0 4 body) (drop 4 body))
    && implies (kind == 5) (length body % lsa_header == 0))))

-- the bytes are a packet, as a test (`IsPacket` of Packet; section 8.2, appendix A.3)
unfoldable pub is_packet : List ℕ → Bool
is_packet packet =
    nat_le packet_header (length packet)
    && ((slice_index packet 0 == 2)
    && ((nat_le 1 (packet_type packet) && nat_le (packet_type packet) 5)
    && ((number_at 2 2 packet == length packet)
    && ((number_at 12 2 packet == packet_checksum packet)
    && ((number_at 14 2 packet == 0)
    && (is_body (packet_type packet) (body_of packet)
    && nat_le (length packet) largest_packet))))))

-- what a packet says; nothing is said by bytes that are none
unfoldable pub packet_of : List ℕ → Option Meaning
packet_of packet = if is_packet packet then Some (meaning_of packet) else None
