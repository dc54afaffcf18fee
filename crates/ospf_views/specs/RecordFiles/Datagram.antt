-- What a datagram adds to a capture.
use Rattle.std.specs.Prelude.{ℕ, List}
use Rattle.ospf_base.specs.declared.ids.Addr.{Addr}
use Rattle.ospf_views.specs.RecordFiles.Ip.{ip_packet}
use Rattle.ospf_views.specs.RecordFiles.Pcap.{Captured, record_bytes}
use Rattle.ospf_views.specs.declared.records.moment.Moment.{Moment}

-- an OSPF packet that went from one address to another at a moment, as it is captured
abbrev pub captured : Moment → Addr → Addr → List ℕ → Captured
captured at source destination ospf =
    record {
      seconds = at.seconds;
      microseconds = at.microseconds;
      packet = ip_packet source.0 destination.0 ospf;
    }

-- its bytes in a capture
abbrev pub datagram_bytes : Moment → Addr → Addr → List ℕ → List ℕ
datagram_bytes at source destination ospf = record_bytes (captured at source destination ospf)
