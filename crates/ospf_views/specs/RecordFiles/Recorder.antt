-- Captures that go on as more is sent: what is in one already, and what is added.
use Rattle.std.specs.Prelude.{◌≡◌, ◌==◌, ◌≤◌, ◌<◌, ◌++◌, ℕ, List, Result, count_by, drop, flat_map, length, slice_index_or, take}
use Rattle.std.specs.List.{AllByRecursion}
use Rattle.ospf_base.specs.declared.event.event.WorldEvent.{WorldEvent}
use Rattle.ospf_base.specs.declared.event.event.WorldFault.{WorldFault}
use Rattle.ospf_world.specs.declared.logs.Datagram.{Datagram}
use Rattle.ospf_views.specs.RecordFiles.Captures.{capture_of, captured_of, numbered_datagrams, seconds}
use Rattle.ospf_views.specs.RecordFiles.Counts.{capped, count_in}
use Rattle.ospf_views.specs.RecordFiles.Pcap.{record_bytes}
use Rattle.ospf_views.specs.RecordFiles.Stamps.{AreTicksRead}
use Rattle.ospf_views.specs.declared.records.recorder.Recorder.{Recorder}
use Rattle.ospf_world.specs.Does.{Does}
use Rattle.ospf_world.specs.Worlds.{WorldValue}
use Rattle.ospf_world.specs.declared.ticks.Ticked.{Ticked}

-- the first datagrams of a log are in the capture, and counted by their seconds, and so are the
-- ticks that came before them
pub record IsRecordedTo (ticks : List Ticked) (datagrams : List Datagram) (r : Recorder)
    : Type 0 where
  pub within : r.datagrams ≤ length datagrams
  pub clocks : AreTicksRead ticks r.datagrams r.ticks r.clocks
  pub stamped : (k : ℕ) → count_in r.stamped k
      ≡ capped (count_by (λ s. s == k) (take r.datagrams (seconds ticks datagrams)))

-- all datagrams of a log are
pub record IsRecorded (ticks : List Ticked) (datagrams : List Datagram) (r : Recorder)
    : Type 0 where
  pub to : IsRecordedTo ticks datagrams r
  pub all : r.datagrams ≡ length datagrams

-- this datagram is the next one
pub record IsNextOf (datagrams : List Datagram) (r : Recorder) (g : Datagram) : Type 0 where
  pub within : r.datagrams < length datagrams
  pub is : g ≡ slice_index_or datagrams r.datagrams g

-- logs that go on: a tick that comes is behind all that was sent before
pub record GoOn (ticks : List Ticked) (datagrams : List Datagram) (ticks' : List Ticked)
    (datagrams' : List Datagram) : Type 0 where
  pub more : List Ticked
  pub sent : List Datagram
  pub ticks_are : ticks' ≡ ticks ++ more
  pub datagrams_are : datagrams' ≡ datagrams ++ sent
  pub behind : AllByRecursion (λ t. length datagrams ≤ t.sent) more

-- the records of all datagrams but the first so many
abbrev pub records_since : ℕ → List Ticked → List Datagram → List ℕ
records_since n ticks datagrams =
    flat_map record_bytes
    (flat_map (captured_of ticks datagrams) (drop n (numbered_datagrams datagrams)))

-- the datagrams up to this number are added to a capture, of which the first were in it
pub record AddsTo (number : ℕ) (ticks : List Ticked) (datagrams : List Datagram) (before : Recorder)
    (out : List ℕ) (after : Recorder) (out' : List ℕ) : Type 0 where
  pub recorded : IsRecordedTo ticks datagrams after
  pub all : after.datagrams ≡ number
  pub sent : out' ++ records_since number ticks datagrams
      ≡ out ++ records_since before.datagrams ticks datagrams

-- a capture still begins with its old contents, followed by some of what was added
abbrev pub StillBegins : List ℕ → List ℕ → Type 0
StillBegins before after = (more : List ℕ) × (after ≡ before ++ more)

-- the law: if logs go on, their capture is the old capture followed by what was sent since
abbrev pub CapturesGoOn : Type 0
CapturesGoOn =
    (ticks ticks' : List Ticked) (datagrams datagrams' : List Datagram)
    → GoOn ticks datagrams ticks' datagrams'
    → capture_of ticks' datagrams'
    ≡ capture_of ticks datagrams ++ records_since (length datagrams) ticks' datagrams'

-- the law: whatever happens in a world, its logs go on
abbrev pub LogsGoOn : Type 0
LogsGoOn =
    (event : WorldEvent) (result : Result (Unit {0}) WorldFault) (before after : WorldValue)
    → Does event before result after
    → GoOn before.ticks before.logs.datagrams after.ticks after.logs.datagrams

-- the law: so do they where they go on twice
abbrev pub GoOnAndOn : Type 0
GoOnAndOn =
    (ticks ticks' ticks'' : List Ticked) (datagrams datagrams' datagrams'' : List Datagram)
    → GoOn ticks datagrams ticks' datagrams' → GoOn ticks' datagrams' ticks'' datagrams''
    → GoOn ticks datagrams ticks'' datagrams''
