-- Laws of captures.
use Rattle.std.specs.Prelude.{◌≡◌, ◌+◌, ◌^◌, ◌<◌, ◌≤◌, ℕ, List, length, drop, sum}
use Rattle.std.specs.List.{AllByRecursion}
use Rattle.ospf_base.specs.Bytes.{number_at}
use Rattle.ospf_base.specs.Constants.{ip_header}
use Rattle.ospf_base.specs.Sums.{words, ones_complement_sum}
use Rattle.ospf_views.specs.RecordFiles.Datagram.{captured, datagram_bytes}
use Rattle.ospf_views.specs.RecordFiles.Ip.{ip_header_bytes, largest_ip_packet}
use Rattle.ospf_views.specs.RecordFiles.Pcap.{Captured, CapturedFits, capture_bytes}
use Rattle.ospf_base.specs.declared.ids.Addr.{Addr}
use Rattle.ospf_views.specs.declared.records.moment.Moment.{Moment}

-- the words of a header, its checksum among them, sum to all ones
abbrev pub ChecksumHolds : Type 0
ChecksumHolds =
    (size source destination : ℕ) → size ≤ largest_ip_packet → source < 2 ^ 32
    → destination < 2 ^ 32
    → ones_complement_sum (sum (words (ip_header_bytes size source destination))) ≡ 65535

-- the lengths in a record and in its IP header: the captured bytes, the original bytes, the Total
-- Length
pub record TellsLengths (recorded packet : List ℕ) : Type 0 where
  pub behind : drop 16 recorded ≡ packet
  pub kept : number_at 8 4 recorded ≡ length packet
  pub whole : number_at 12 4 recorded ≡ length packet
  pub total : number_at 2 2 packet ≡ length packet

-- the law: if a datagram is not too long, the capture has its lengths
abbrev pub LengthsAreTold : Type 0
LengthsAreTold =
    (at : Moment) (source destination : Addr) (ospf : List ℕ)
    → ip_header + length ospf ≤ largest_ip_packet
    → TellsLengths (datagram_bytes at source destination ospf)
    (captured at source destination ospf).packet

-- a file is the capture of one list of packets and no other
abbrev pub HasOneReading : Type 0
HasOneReading =
    (xs ys : List Captured) → AllByRecursion CapturedFits xs → AllByRecursion CapturedFits ys
    → capture_bytes xs ≡ capture_bytes ys → xs ≡ ys
