-- What a datagram on loopback holds: the source, the destination, and the packet.
use Rattle.std.specs.Prelude.{◌≡◌, ◌⊎◌, ◌<◌, ◌++◌, ℕ, List, drop}
use Rattle.ospf_base.specs.Bytes.{number_at, number_bytes}
use Rattle.ospf_base.specs.declared.ids.Addr.{Addr}

-- the source, the destination, and then the packet
abbrev pub frame_bytes : Addr → Addr → List ℕ → List ℕ
frame_bytes source destination packet =
    number_bytes 4 source.0 ++ (number_bytes 4 destination.0 ++ packet)

-- the first eight bytes are the source and the destination, and this is the rest
pub record IsFrameOf (datagram : List ℕ) (source destination : Addr) (packet : List ℕ)
    : Type 0 where
  pub source_is : source.0 ≡ number_at 0 4 datagram
  pub destination_is : destination.0 ≡ number_at 4 4 datagram
  pub packet_is : packet ≡ drop 8 datagram

-- a datagram of so many bytes is passed over: there is no source and no destination, or
-- the packet is longer than any is
abbrev pub IsPassedOver : ℕ → Type 0
IsPassedOver count = (count < 8) ⊎ (16392 < count)
