-- What a packet says, and its spelling (RFC 2328, appendix A.3).
use Rattle.std.specs.Prelude.{ℕ, ◌+◌, ◌^◌, ◌<◌, ◌≤◌, List, ◌∷◌, [], ◌++◌, length, take, drop}
use Rattle.std.specs.List.{flat_map, AllByRecursion}
use Rattle.ospf_base.specs.Bytes.{number_bytes}
pub use Rattle.ospf_base.specs.Constants.{largest_packet, packet_header}
use Rattle.ospf_base.specs.Sums.{packet_checksum}
use Rattle.ospf_base.specs.declared.ids.RouterId.{RouterId}
use Rattle.ospf_lsa.specs.Attached.{routers_bytes, RouterFits}
use Rattle.ospf_lsa.specs.declared.header.LsaHeader.{LsaHeader}
use Rattle.ospf_packet.specs.Fields.{hello_bytes, HelloFits, description_bytes, DescriptionFits}
use Rattle.ospf_packet.specs.Headers.{aged_bytes, AgedFits}
use Rattle.ospf_packet.specs.Requests.{request_entry_bytes, RequestEntryFits}
use Rattle.ospf_packet.specs.Slices.{lsas_bytes, IsSlice}
use Rattle.ospf_packet.specs.declared.body.Hello.{Hello}
use Rattle.ospf_packet.specs.declared.body.Description.{Description}
use Rattle.ospf_packet.specs.declared.entry.RequestEntry.{RequestEntry}
use Rattle.ospf_base.specs.declared.ids.AreaId.{AreaId}

-- the body by its type; the LSAs of an Update are lists of bytes
pub data BodyMeaning : Type 0 where
  hello : (fields : Hello) (neighbours : List RouterId) → BodyMeaning
  description : (fields : Description) (headers : List LsaHeader) → BodyMeaning
  request : (entries : List RequestEntry) → BodyMeaning
  update : (lsas : List (List ℕ)) → BodyMeaning
  acknowledgment : (headers : List LsaHeader) → BodyMeaning

-- what a packet says: the Router ID of its sender, its area, and its body (appendix A.3.1)
pub record Meaning : Type 0 where
  pub router : RouterId
  pub area : AreaId
  pub body : BodyMeaning

-- the type in the header (appendix A.3.1)
abbrev pub packet_body_type : BodyMeaning → ℕ
packet_body_type (hello fields neighbours) = 1
packet_body_type (description fields headers) = 2
packet_body_type (request entries) = 3
packet_body_type (update lsas) = 4
packet_body_type (acknowledgment headers) = 5

-- the bytes of what it says, after the header
abbrev pub packet_body_bytes : BodyMeaning → List ℕ
packet_body_bytes (hello fields neighbours) = hello_bytes fields ++ routers_bytes neighbours
packet_body_bytes (description fields headers) =
    description_bytes fields ++ flat_map aged_bytes headers
packet_body_bytes (request entries) = flat_map request_entry_bytes entries
packet_body_bytes (update lsas) = number_bytes 4 (length lsas) ++ lsas_bytes lsas
packet_body_bytes (acknowledgment headers) = flat_map aged_bytes headers

-- the header up to the checksum
abbrev pub head_bytes : ℕ → ℕ → RouterId → AreaId → List ℕ
head_bytes kind len router area =
    (2 ∷ kind ∷ number_bytes 2 len) ++ number_bytes 4 router.0 ++ number_bytes 4 area.0

-- AuType 0, and the authentication as zeros (appendix D.1)
abbrev pub no_authentication : List ℕ
no_authentication = 0 ∷ 0 ∷ 0 ∷ 0 ∷ 0 ∷ 0 ∷ 0 ∷ 0 ∷ 0 ∷ 0 ∷ []

-- the packet with this checksum
abbrev pub bytes_with_sum : Meaning → ℕ → List ℕ
bytes_with_sum m sum =
    head_bytes (packet_body_type m.body) (packet_header + length (packet_body_bytes m.body))
    m.router m.area ++ number_bytes 2 sum ++ no_authentication
    ++ packet_body_bytes m.body

-- the packet, its checksum right
abbrev pub packet_bytes : Meaning → List ℕ
packet_bytes m = bytes_with_sum m (packet_checksum (bytes_with_sum m 0))

-- bytes with this checksum in its place
abbrev pub with_packet_sum : List ℕ → ℕ → List ℕ
with_packet_sum packet sum = take 12 packet ++ number_bytes 2 sum ++ drop 14 packet

-- what it says has a spelling: the numbers fit their fields
abbrev pub PacketBodyFits : BodyMeaning → Type 0
PacketBodyFits (hello fields neighbours) = HelloFits fields × AllByRecursion RouterFits neighbours
PacketBodyFits (description fields headers) =
    DescriptionFits fields × AllByRecursion AgedFits headers
PacketBodyFits (request entries) = AllByRecursion RequestEntryFits entries
PacketBodyFits (update lsas) = AllByRecursion IsSlice lsas
PacketBodyFits (acknowledgment headers) = AllByRecursion AgedFits headers

-- the count of an Update fits its field
abbrev pub CountFits : BodyMeaning → Type 0
CountFits (update lsas) = length lsas < 2 ^ 32
CountFits _ = Unit {0}

-- what has a spelling: numbers fit their fields, and the packet is not too long
pub record MeaningFits (m : Meaning) : Type 0 where
  pub router : m.router.0 < 2 ^ 32
  pub area : m.area.0 < 2 ^ 32
  pub body : PacketBodyFits m.body
  pub short : packet_header + length (packet_body_bytes m.body) ≤ largest_packet
