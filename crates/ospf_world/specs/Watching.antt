-- What a watch sees: each event, before it and after it, with the world at that time.
use Rattle.std.specs.Prelude.{ℕ, Result}
use Rattle.ospf_base.specs.declared.event.event.WorldEvent.{WorldEvent}
use Rattle.ospf_base.specs.declared.event.event.WorldFault.{WorldFault}
use Rattle.ospf_world.specs.Does.{Does}
use Rattle.ospf_world.specs.Worlds.{WorldValue}

-- how a watch changes when it is notified which event comes next, in the world before the event
abbrev pub ComesRule : Type 0 → Type 1
ComesRule V = WorldValue → WorldEvent → V → V → Type 0

-- how it changes when it is notified of the result of that event, in the world after the event
abbrev pub CameRule : Type 0 → Type 1
CameRule V = WorldValue → WorldEvent → Result (Unit {0}) WorldFault → V → V → Type 0

-- a world, and the watch on it
abbrev pub Watched : Type 0 → Type 0
Watched V = WorldValue × V

-- what an event does in a world, if the watch is notified that it comes next, with the world before
-- it, and then of its result, with the world after it, and of nothing else
pub record DoesTold {V : Type 0} (Comes : ComesRule V) (Came : CameRule V) (event : WorldEvent)
    (before : Watched V) (result : Result (Unit {0}) WorldFault) (after : Watched V) : Type 0 where
  pub does : Does event before.0 result after.0
  pub between : V
  pub comes : Comes before.0 event before.1 between
  pub came : Came after.0 event result between after.1

-- this many datagrams count as offered
abbrev pub counting : {V : Type 0} → ℕ → Watched V → Watched V
counting offered w = (record w.0 { offered = offered }, w.1)

-- events led from one world to the other, and the watch was notified of each of them, and of
-- nothing else. Except for how many datagrams count as offered, these events made all changes
pub data Told {V : Type 0} (Comes : ComesRule V) (Came : CameRule V) : Watched V → Watched V
    → Type 0 where
  Nothing : (w : Watched V) → Told Comes Came w w
  Counts : (w w' : Watched V) (offered : ℕ) → Told Comes Came (counting offered w) w'
      → Told Comes Came w w'
  Goes : (event : WorldEvent) (result : Result (Unit {0}) WorldFault) (w mid w' : Watched V)
      → DoesTold Comes Came event w result mid → Told Comes Came mid w' → Told Comes Came w w'
