-- Batches: a tick of each running router, and then what waits, router by router (RFC 2328, section
-- 8.1).
use Rattle.std.specs.Prelude.{◌≡◌, ◌≢◌, ◌==◌, ◌+◌, ◌<◌, ◌≤◌, ◌++◌, ℕ, zero, suc, Bool, true, false, List, [], ◌∷◌, Option, None, Some, Result, Ok, Err, drop, filter, get_or, length, map, set}
use Rattle.std.specs.Global.{Vec}
use Rattle.std.specs.List.{flat_map}
use Rattle.ospf_world.specs.Runs.{IsRun}
use Rattle.ospf_world.specs.Slots.{SlotValue}
use Rattle.ospf_base.specs.Events.Events.{router_in}
use Rattle.ospf_base.specs.declared.event.event.WorldEvent.{WorldEvent}
use Rattle.ospf_base.specs.declared.event.event.WorldFault.{WorldFault}
use Rattle.ospf_base.specs.declared.event.event.WorldFault.TheVariants as fault
use Rattle.ospf_world.specs.declared.logs.Datagram.{Datagram}
use Rattle.ospf_world.specs.Does.{Does}
use Rattle.ospf_world.specs.Rounds.{OffersMore, offers_of, ticks}
use Rattle.ospf_world.specs.Worlds.{WorldValue, place_of}

-- ---- which events

-- the event is at the router at this place
abbrev pub is_place : ℕ → Option ℕ → Bool
is_place place None = false
is_place place (Some k) = k == place

-- the event is one of the router at this place
abbrev pub is_at : List SlotValue → ℕ → WorldEvent → Bool
is_at slots place event = is_place place (place_of slots (router_in event).0)

-- the events for each of this many routers, from the one at this place on, each router's in order
abbrev pub queues_from : List SlotValue → ℕ → ℕ → List WorldEvent → List (List WorldEvent)
queues_from slots place zero events = []
queues_from slots place (suc count) events =
    filter (is_at slots place) events ∷ queues_from slots (place + 1) count events

-- for each router, in the order of the configurations
abbrev pub queues_of : List SlotValue → List WorldEvent → List (List WorldEvent)
queues_of slots events = queues_from slots 0 (length slots) events

-- one router's events after another's
abbrev pub by_router : List SlotValue → List WorldEvent → List WorldEvent
by_router slots events = flat_map (λ queue. queue) (queues_of slots events)

-- the queues of the code
abbrev pub queued : List (Vec WorldEvent) → List (List WorldEvent)
queued queues = map (λ q. q.items) queues

-- an event is put at the end of the queue at this place
abbrev pub put_at : ℕ → WorldEvent → List (List WorldEvent) → List (List WorldEvent)
put_at place event queues = set queues place (get_or queues place [] ++ event ∷ [])

-- the offers of datagrams, the first of which is at this place of the log
abbrev pub offers_from : List SlotValue → ℕ → List Datagram → List WorldEvent
offers_from slots place [] = []
offers_from slots place (g ∷ gs) = offers_of slots place g ++ offers_from slots (place + 1) gs

-- the offers of the datagrams that no round has offered
abbrev pub waiting_offers : WorldValue → List WorldEvent
waiting_offers w = offers_from w.slots w.offered (drop w.offered w.logs.datagrams)

-- a wave: all that no round has offered is offered, router by router
abbrev pub wave : WorldValue → List WorldEvent
wave w = by_router w.slots (waiting_offers w)

-- the next wave, if datagrams wait
pub data IsNextWave (w : WorldValue) (next : Option (List WorldEvent)) : Type 0 where
  NoWave : length w.logs.datagrams ≤ w.offered → next ≡ None → IsNextWave w next
  NextWave : w.offered < length w.logs.datagrams → next ≡ Some (wave w) → IsNextWave w next

-- ---- what they do

-- all datagrams count as offered
abbrev pub all_passed : WorldValue → WorldValue
all_passed w = record w { offered = length w.logs.datagrams }

-- the next wave is delivered, if datagrams wait: refusals are passed over, and it ends if memory
-- runs out. The datagrams then count as offered, unless there was no memory for the list of the
-- wave
pub data TakesWave (before : WorldValue) (answer : Result Bool WorldFault) (after : WorldValue)
    : Type 0 where
  NoneWaits : length before.logs.datagrams ≤ before.offered → answer ≡ Ok false → after ≡ before
      → TakesWave before answer after
  NoRoom : before.offered < length before.logs.datagrams → answer ≡ Err (fault.Memory false)
      → after ≡ before → TakesWave before answer after
  Takes : (refused : ℕ) → before.offered < length before.logs.datagrams
      → IsRun Does (wave before) (all_passed before) (Ok refused) after → answer ≡ Ok true
      → TakesWave before answer after
  Ends : (f : WorldFault) → before.offered < length before.logs.datagrams
      → IsRun Does (wave before) (all_passed before) (Err f) after → answer ≡ Err f
      → TakesWave before answer after

-- at most this many waves
abbrev pub AreTaken : ℕ → WorldValue → Result (Unit {0}) WorldFault → WorldValue → Type 0
AreTaken zero before result after = (after ≡ before) × (result ≡ Ok tt)
AreTaken (suc most) before result after = OffersMore (TakesWave before) (AreTaken most) result after

-- a batch of at most this many waves: the ticks, and then the waves. Refusals are passed over. It
-- ends if memory runs out; for the list of ticks, if there are any, at the beginning
pub data IsBatchOf (most : ℕ) (before : WorldValue) (result : Result (Unit {0}) WorldFault)
    (after : WorldValue) : Type 0 where
  NoRoom : ticks before.slots ≢ [] → result ≡ Err (fault.Memory false) → after ≡ before
      → IsBatchOf most before result after
  TicksEnd : (f : WorldFault) → IsRun Does (ticks before.slots) before (Err f) after
      → result ≡ Err f → IsBatchOf most before result after
  Goes : (refused : ℕ) (mid : WorldValue) → IsRun Does (ticks before.slots) before (Ok refused) mid
      → AreTaken most mid result after → IsBatchOf most before result after

-- how many waves a batch has at most
unfoldable pub most_waves : ℕ
most_waves = 10000

-- a batch: one with that many waves
abbrev pub IsBatch : (before : WorldValue) → Result (Unit {0}) WorldFault → (after : WorldValue)
    → Type 0
IsBatch before result after = IsBatchOf most_waves before result after
