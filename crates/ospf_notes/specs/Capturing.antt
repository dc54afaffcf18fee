-- The capture of a run, as it is written to a file.
use Rattle.std.specs.Prelude.{◌≡◌, ◌+◌, ◌<◌, ◌⊎◌, ℕ, Bool, List, [], Option, length}
use Rattle.ospf_base.specs.Constants.{ip_header}
use Rattle.ospf_base.specs.declared.ids.Addr.{Addr}
use Rattle.ospf_views.specs.RecordFiles.Datagram.{datagram_bytes}
use Rattle.ospf_views.specs.RecordFiles.Ip.{largest_ip_packet}
use Rattle.ospf_views.specs.declared.records.moment.Moment.{Moment}

-- the contents of its file, if they are known, as long as there is a file to write to; and whether
-- everything could be written so far
pub record CaptureValue : Type 0 where
  pub contents : Option (Option (List ℕ))
  pub is_written : Bool

-- a packet as captured at a moment; no bytes if it does not fit into an IP packet
abbrev pub IsRecord : Moment → Addr → Addr → List ℕ → List ℕ → Type 0
IsRecord at source destination packet bytes =
    (bytes ≡ datagram_bytes at source destination packet)
    ⊎ ((largest_ip_packet < ip_header + length packet) × (bytes ≡ []))
