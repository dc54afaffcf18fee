-- IP packets that carry OSPF (RFC 791, section 3.1, and RFC 2328, appendix A.1).
use Rattle.std.specs.Prelude.{ℕ, ◌+◌, ◌-◌, List, [], ◌∷◌, ◌++◌, length, sum}
use Rattle.ospf_base.specs.Bytes.{number_bytes}
use Rattle.ospf_base.specs.Constants.{ip_header}
use Rattle.ospf_base.specs.Sums.{words, ones_complement_sum}

-- the longest IP packet: its Total Length has 16 bits
abbrev pub largest_ip_packet : ℕ
largest_ip_packet = 65535

-- version 4 and a header of five words of 32 bits
abbrev pub version_and_length : ℕ
version_and_length = 0x45

-- Internetwork Control, the precedence of routing packets
abbrev pub type_of_service : ℕ
type_of_service = 0xc0

-- one hop: packets of OSPF are not forwarded
abbrev pub time_to_live : ℕ
time_to_live = 1

-- OSPF among the protocols over IP
abbrev pub ospf_protocol : ℕ
ospf_protocol = 89

-- the header of a packet of so many bytes in all, with this checksum: identification,
-- flags and fragment offset are 0
abbrev pub header_with_sum : ℕ → ℕ → ℕ → ℕ → List ℕ
header_with_sum size source destination checksum =
    (version_and_length ∷ type_of_service ∷ number_bytes 2 size) ++ (0 ∷ 0 ∷ 0 ∷ 0 ∷ [])
    ++ (time_to_live ∷ ospf_protocol ∷ number_bytes 2 checksum) ++ number_bytes 4 source
    ++ number_bytes 4 destination

-- the ones' complement of the ones' complement sum of a header's words
abbrev pub header_checksum : List ℕ → ℕ
header_checksum header = 65535 - ones_complement_sum (sum (words header))

-- the header, its checksum computed with its own field as 0
abbrev pub ip_header_bytes : ℕ → ℕ → ℕ → List ℕ
ip_header_bytes size source destination =
    header_with_sum size source destination
    (header_checksum (header_with_sum size source destination 0))

-- an OSPF packet as an IP packet
abbrev pub ip_packet : ℕ → ℕ → List ℕ → List ℕ
ip_packet source destination ospf =
    ip_header_bytes (ip_header + length ospf) source destination ++ ospf
