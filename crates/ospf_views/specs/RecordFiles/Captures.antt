-- The capture of what was sent in a network. A datagram's moment is the tick of its router.
use Rattle.std.specs.Prelude.{◌==◌, ◌+◌, ℕ, Bool, List, [], ◌∷◌, flat_map, length, map, nat_le, nat_lt, take, count_by, take_while, if◌then◌else◌}
use Rattle.std.specs.List.{enumerate_from}
use Rattle.ospf_base.specs.Constants.{ip_header}
use Rattle.ospf_views.specs.RecordFiles.Ip.{ip_packet, largest_ip_packet}
use Rattle.ospf_views.specs.RecordFiles.Pcap.{Captured, capture_bytes}
use Rattle.ospf_world.specs.declared.logs.Datagram.{Datagram}
use Rattle.ospf_world.specs.declared.ticks.Ticked.{Ticked}
use Rattle.ospf_views.specs.RecordFiles.Counts.{capped}

-- a tick was the router's
abbrev pub is_tick_of : ℕ → Ticked → Bool
is_tick_of router t = t.router.0 == router

-- a tick came before the datagram of this number, or sent it
abbrev pub is_by : ℕ → Ticked → Bool
is_by number t = nat_le t.sent number

-- the second of the datagram of this number: how many ticks its router had taken by then
unfoldable pub second_of : List Ticked → ℕ × Datagram → ℕ
second_of ticks sent =
    capped (count_by (is_tick_of sent.1.router.0) (take_while (is_by sent.0) ticks))

-- the datagrams with their numbers
abbrev pub numbered_datagrams : List Datagram → List (ℕ × Datagram)
numbered_datagrams datagrams = enumerate_from 0 datagrams

-- the seconds of all of them
abbrev pub seconds : List Ticked → List Datagram → List ℕ
seconds ticks datagrams = map (second_of ticks) (numbered_datagrams datagrams)

-- the last microsecond of a second
abbrev pub last_microsecond : ℕ
last_microsecond = 999999

-- a number, or the last microsecond where it is larger
unfoldable pub within_second : ℕ → ℕ
within_second n = if nat_lt n last_microsecond then n else last_microsecond

-- the microsecond of a datagram: how many before it are of its second, as far as the second goes
unfoldable pub microsecond_of : List Ticked → List Datagram → ℕ × Datagram → ℕ
microsecond_of ticks datagrams sent =
    within_second
    (count_by (λ s. s == second_of ticks sent) (take sent.0 (seconds ticks datagrams)))

-- a datagram as it is captured at a moment; one that fits into no IP packet is left out
unfoldable pub captured_at : ℕ → ℕ → Datagram → List Captured
captured_at second microsecond g =
    if nat_le (ip_header + length g.sent.bytes) largest_ip_packet
    then record {
      seconds = second;
      microseconds = microsecond;
      packet = ip_packet g.sent.source.0 g.sent.destination.0 g.sent.bytes;
    } ∷ []
    else []

-- a datagram as it is captured, at its moment
abbrev pub captured_of : List Ticked → List Datagram → ℕ × Datagram → List Captured
captured_of ticks datagrams sent =
    captured_at (second_of ticks sent) (microsecond_of ticks datagrams sent) sent.1

-- the capture of all datagrams, in their order
abbrev pub capture_of : List Ticked → List Datagram → List ℕ
capture_of ticks datagrams =
    capture_bytes (flat_map (captured_of ticks datagrams) (numbered_datagrams datagrams))
