-- The ticks that the routers of a world took.
use Rattle.std.specs.Prelude.{◌≡◌, ◌++◌, ℕ, List, [], ◌∷◌, Result, Ok, Err, length}
use Rattle.ospf_world.specs.World.{Comes, World}
use Rattle.ospf_base.specs.declared.event.event.WorldEvent.{WorldEvent}
use Rattle.ospf_base.specs.declared.event.event.WorldEvent.TheVariants.{Start, Stop, Tick, LinkUp, LinkDown, Deliver}
use Rattle.ospf_base.specs.declared.event.event.WorldFault.{WorldFault}
use Rattle.ospf_router.specs.Steps.{is_dropped}
use Rattle.ospf_world.specs.Worlds.{WorldValue, world_of}
use Rattle.ospf_world.specs.declared.ticks.Ticked.{Ticked}

-- a tick that is not refused
abbrev pub ticked_if : Result (Unit {0}) WorldFault → Ticked → List Ticked
ticked_if (Ok done) tick = tick ∷ []
ticked_if (Err fault) tick = []

-- what the log of ticks grows by: a tick that its router took, where
-- this many datagrams had been sent
abbrev pub ticked_by : WorldEvent → Result (Unit {0}) WorldFault → ℕ → List Ticked
ticked_by (Start r dd floor) result sent = []
ticked_by (Stop r) result sent = []
ticked_by (Tick r) result sent = ticked_if result (record { router = r; sent = sent })
ticked_by (LinkUp r l) result sent = []
ticked_by (LinkDown r l) result sent = []
ticked_by (Deliver d r l) result sent = []

-- these events led from one world to the other, and the log of ticks grew by theirs
abbrev pub TicksBy : List WorldEvent → World → List Ticked → World → List Ticked → Type 0
TicksBy [] w ticks w' ticks' = (w' ≡ w) × (ticks' ≡ ticks)
TicksBy (event ∷ events) w ticks w' ticks' =
    (mid : World) × (result : Result (Unit {0}) WorldFault) × Comes is_dropped event w result mid
    × TicksBy events mid (ticks ++ ticked_by event result (length w.datagrams)) w' ticks'

-- some events did
abbrev pub TicksOn : World → List Ticked → World → List Ticked → Type 0
TicksOn w ticks w' ticks' = (events : List WorldEvent) × TicksBy events w ticks w' ticks'

-- the same for two worlds in code
abbrev pub TicksGoOn : WorldValue → WorldValue → Type 0
TicksGoOn w w' = TicksOn (world_of w) w.ticks (world_of w') w'.ticks
