-- A wire in memory, and what it reports.
use Rattle.std.specs.Prelude.{ℕ, List, [], map, take, length}
use Rattle.ospf_area.specs.Outputs.{SentValue}
use Rattle.ospf_drive.specs.Traffic.{Heard, Traffic}
use Rattle.ospf_drive.specs.Traffic.Heard.{Datagram, Tick, LinkUp, LinkDown, End}
use Rattle.ospf_drive.specs.declared.memory.Scripted.{Scripted}
use Rattle.ospf_drive.specs.declared.memory.Scripted.TheVariants as script

-- an arrival of a script, as it is heard
abbrev pub scripted : Scripted → Heard
scripted (script.Datagram link source destination bytes) =
    Datagram link source destination (length bytes.items) (take 16393 bytes.items)
scripted script.Tick = Tick
scripted (script.LinkUp link) = LinkUp link
scripted (script.LinkDown link) = LinkDown link
scripted script.End = End

-- the first arrivals of the script, this many, were delivered, and these datagrams went out
abbrev pub told_by_script : List Scripted → ℕ → List SentValue → Traffic
told_by_script arrivals taken out = record { taken = map scripted (take taken arrivals); out = out }

-- a wire in memory: its script, how much of it was delivered, what went out, and how often it has
-- failed
pub record MemoryValue : Type 0 where
  pub arrivals : List Scripted
  pub taken : ℕ
  pub out : List SentValue
  pub failed : ℕ

-- nothing was delivered or sent
abbrev pub new_wire : List Scripted → MemoryValue
new_wire arrivals = record { arrivals = arrivals; taken = 0; out = []; failed = 0 }
