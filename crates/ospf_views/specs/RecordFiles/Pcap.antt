-- Capture files: libpcap's classic format (pcap-savefile(5), draft-ietf-opsawg-pcap),
-- numbers in network byte order.
use Rattle.std.specs.Prelude.{ℕ, ◌^◌, ◌<◌, ◌≤◌, List, ◌++◌, length}
use Rattle.std.specs.List.{flat_map}
use Rattle.ospf_base.specs.Bytes.{number_bytes}

-- timestamps are in seconds and microseconds; the first byte shows the byte order
abbrev pub magic : ℕ
magic = 0xa1b2c3d4

-- the format's version, 2.4
abbrev pub major_version : ℕ
major_version = 2

-- the format's minor version
abbrev pub minor_version : ℕ
minor_version = 4

-- so many bytes of a packet are kept: all of an IP packet
abbrev pub snap_length : ℕ
snap_length = 65535

-- LINKTYPE_RAW: IP packets with nothing before them
abbrev pub raw_link : ℕ
raw_link = 101

-- what a file begins with: the two numbers between version and snap length are reserved, and 0
abbrev pub file_header : List ℕ
file_header =
    number_bytes 4 magic ++ number_bytes 2 major_version ++ number_bytes 2 minor_version
    ++ number_bytes 4 0 ++ number_bytes 4 0
    ++ number_bytes 4 snap_length ++ number_bytes 4 raw_link

-- a packet that was captured, and when: seconds since the beginning of 1970 and microseconds
pub record Captured : Type 0 where
  pub seconds : ℕ
  pub microseconds : ℕ
  pub packet : List ℕ

-- what stands before a packet: its moment, how many bytes of it are kept, and how many it has
abbrev pub record_header : ℕ → ℕ → ℕ → List ℕ
record_header seconds microseconds size =
    number_bytes 4 seconds ++ number_bytes 4 microseconds ++ number_bytes 4 size
    ++ number_bytes 4 size

-- a packet that is kept whole
abbrev pub record_bytes : Captured → List ℕ
record_bytes c = record_header c.seconds c.microseconds (length c.packet) ++ c.packet

-- the numbers of a captured packet are such as the format has
pub record CapturedFits (c : Captured) : Type 0 where
  pub seconds : c.seconds < 2 ^ 32
  pub microseconds : c.microseconds < 1000000
  pub size : length c.packet ≤ snap_length

-- the file of these packets
abbrev pub capture_bytes : List Captured → List ℕ
capture_bytes packets = file_header ++ flat_map record_bytes packets
