-- What bytes spell what a packet says, each byte of them (RFC 2328, appendix A.3).
use Rattle.std.specs.Prelude.{◌≡◌, ℕ, ◌^◌, ◌<◌, ◌≤◌, List, [], ◌∷◌, ◌++◌, length, map, take, drop, min}
use Rattle.std.specs.List.{flat_map, AllByRecursion}
use Rattle.ospf_base.specs.Bytes.{number_bytes}
use Rattle.ospf_base.specs.Constants.{max_age, packet_header}
use Rattle.ospf_base.specs.Sums.{packet_checksum}
use Rattle.ospf_lsa.specs.Header.{header_bytes, HeaderFits}
use Rattle.ospf_lsa.specs.declared.header.LsaHeader.{LsaHeader}
use Rattle.ospf_packet.specs.Fields.{description_bytes}
use Rattle.ospf_packet.specs.Meaning.{BodyMeaning, hello, description, request, update, acknowledgment, Meaning, packet_body_type, packet_body_bytes, head_bytes}

-- a header as a packet carries it: its age field may be above MaxAge
pub record HeaderEntry : Type 0 where
  pub header : LsaHeader
  pub age_field : ℕ

-- the 20 bytes of an LSA header
abbrev pub header_entry_bytes : HeaderEntry → List ℕ
header_entry_bytes e = number_bytes 2 e.age_field ++ header_bytes e.header

-- what has a spelling: an age field above MaxAge means MaxAge
pub record HeaderEntryFits (e : HeaderEntry) : Type 0 where
  pub age_fits : e.age_field < 2 ^ 16
  pub age_is : e.header.age ≡ min e.age_field max_age
  pub rest : HeaderFits e.header

-- the bytes are these headers, one after the other, and nothing else
pub record SpellHeaders (headers : List LsaHeader) (bytes : List ℕ) : Type 0 where
  pub entries : List HeaderEntry
  pub are : map (λ (e : HeaderEntry). e.header) entries ≡ headers
  pub fit : AllByRecursion HeaderEntryFits entries
  pub spelled : bytes ≡ flat_map header_entry_bytes entries

-- the bytes are a Database Description of these fields and headers, and nothing else
pub record SpellDescription (fields : List ℕ) (headers : List LsaHeader) (bytes : List ℕ)
    : Type 0 where
  pub listed : List ℕ
  pub headers_spelled : SpellHeaders headers listed
  pub spelled : bytes ≡ fields ++ listed

-- the bytes are this body
abbrev pub SpellBody : BodyMeaning → List ℕ → Type 0
SpellBody (hello fields neighbours) bytes = bytes ≡ packet_body_bytes (hello fields neighbours)
SpellBody (description fields headers) bytes =
    SpellDescription (description_bytes fields) headers bytes
SpellBody (request entries) bytes = bytes ≡ packet_body_bytes (request entries)
SpellBody (update lsas) bytes = bytes ≡ packet_body_bytes (update lsas)
SpellBody (acknowledgment headers) bytes = SpellHeaders headers bytes

-- the bytes are this packet: its header with the right length and checksum and AuType 0, then eight
-- bytes of authentication, whatever they are, then its body
pub record SpellsPacket (m : Meaning) (packet : List ℕ) : Type 0 where
  pub long : packet_header ≤ length packet
  pub head : take 16 packet
      ≡ head_bytes (packet_body_type m.body) (length packet) m.router m.area
      ++ number_bytes 2 (packet_checksum packet) ++ (0 ∷ 0 ∷ [])
  pub body : SpellBody m.body (drop packet_header packet)
