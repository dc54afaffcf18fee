-- What is delivered, and how many ticks that is.
use Rattle.std.specs.Prelude.{⊤, ◌<◌, ℕ, Option, None, Some}
use Rattle.ospf_drive.specs.declared.wire.Arrival.{Arrival}
use Rattle.ospf_drive.specs.declared.wire.Arrival.TheVariants as arrival
use Rattle.ospf_drive.specs.declared.udp.sockets.Polled.{Polled}
use Rattle.ospf_drive.specs.declared.udp.sockets.Polled.TheVariants as looked

-- so many ticks are fewer than there are
abbrev pub HasMore : Option ℕ → ℕ → Type 0
HasMore (Some ticks) taken = taken < ticks
HasMore None taken = ⊤

-- how many ticks an arrival is
abbrev pub arrival_ticks : Arrival → ℕ
arrival_ticks arrival.Tick = 1
arrival_ticks _ = 0

-- and what is next, if it is anything
abbrev pub tick_next : Option Arrival → ℕ
tick_next None = 0
tick_next (Some a) = arrival_ticks a

-- an arrival from outside: no tick and no end
abbrev pub IsFromOutside : Arrival → Type 0
IsFromOutside arrival.Tick = ⊥
IsFromOutside arrival.End = ⊥
IsFromOutside _ = ⊤

-- what the sockets gave comes from outside
abbrev pub AreFromOutside : Polled → Type 0
AreFromOutside (looked.Arrived a) = IsFromOutside a
AreFromOutside _ = ⊤
