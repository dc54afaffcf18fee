-- A router's place in a world, and what a world event does there.
use Rattle.std.specs.Prelude.{⊤, ◌≡◌, ℕ, ℤ, List, [], Option, None, Some, Result, Ok, Err, true, false, nat_lt, slice_get, option_and_then, option_map, vec_len}
use Rattle.std.specs.Ordering.{int_eq}
use Rattle.ospf_area.specs.Outputs.{OutputsValue}
use Rattle.ospf_base.specs.declared.ids.RouterId.{RouterId}
use Rattle.ospf_config.specs.declared.config.Config.{Config}
use Rattle.ospf_flood.specs.Rules.{max_sequence_number}
use Rattle.ospf_world.specs.World as world
use Rattle.ospf_world.specs.World.{HasItsTable, Member, Running, RunsGoOn, WantsRoom}
use Rattle.ospf_world.specs.declared.logs.Datagram.{Datagram}
use Rattle.ospf_world.specs.declared.logs.Issued.{Issued}
use Rattle.ospf_base.specs.declared.event.event.WorldEvent.{WorldEvent}
use Rattle.ospf_base.specs.declared.event.event.WorldFault.{WorldFault}
use Rattle.ospf_base.specs.declared.event.event.WorldEvent.TheVariants.{Start, Stop, Tick, LinkUp, LinkDown, Deliver}
use Rattle.ospf_base.specs.declared.event.event.WorldFault.TheVariants as fault
use Rattle.ospf_router.specs.AreaStep.Counts.{with_dropped, none_dropped_on}
use Rattle.ospf_router.specs.AreaStep.Drops.{dropped_by}
use Rattle.ospf_router.specs.AreaStep.Step.{Event}
use Rattle.ospf_router.specs.declared.step.counts.DropCounts.{DropCounts}
use Rattle.ospf_router.specs.declared.step.dropped.Dropped.{Dropped}
use Rattle.ospf_router.specs.Routers.{RouterValue}
use Rattle.ospf_router.specs.AreaStep.Lawful.{IsLawful}
use Rattle.ospf_router.specs.AreaStep.Steps.{StepsArea}
use Rattle.ospf_world.specs.Logs.{LogsTake, LogsValue}
use Rattle.ospf_world.specs.Running.{Lives, RunningValue, StartsAs, delivery, running_of}

-- how a router is configured, how it runs, if it does, and what it
-- dropped since it started, by links
pub record SlotValue : Type 0 where
  pub config : Config
  pub running : Option Running
  pub drops : List DropCounts

-- what it dropped, if it runs
abbrev pub drops_in : Option RunningValue → List DropCounts
drops_in None = []
drops_in (Some v) = v.drops

-- the router of a configuration, which may not run
abbrev pub slot_of : Config → Option RunningValue → SlotValue
slot_of config v =
    record { config = config; running = option_and_then running_of v; drops = drops_in v }

-- what is in a slot has not stopped
abbrev pub IsSlot : Option RunningValue → Type 0
IsSlot None = ⊤
IsSlot (Some v) = Lives v

-- as the laws of worlds have it
abbrev pub member_of : SlotValue → Member
member_of s =
    record { router = s.config.router_id; links = vec_len s.config.interfaces; running = s.running }

-- the router runs in this state, and has dropped this
abbrev pub with_running : SlotValue → Option Running → List DropCounts → SlotValue
with_running s x drops = record { config = s.config; running = x; drops = drops }

-- the router that runs in this state
pub record IsLent (running : Option Running) (r : RouterValue) : Type 0 where
  pub x : Running
  pub runs : running ≡ Some x
  pub area : r.area ≡ Some x.state
  pub table : r.table ≡ x.table

-- ---- events

-- why the event is refused by its router, if it is, where these datagrams were sent
abbrev pub refused_by : List Datagram → WorldEvent → Member → Option WorldFault
refused_by sent (Start r dd floor) m = world.unless_running floor m
refused_by sent (Stop r) m = world.unless_stopped m
refused_by sent (Tick r) m = world.unless_stopped m
refused_by sent (LinkUp r l) m = world.fault_on_link l m
refused_by sent (LinkDown r l) m = world.fault_on_link l m
refused_by sent (Deliver d r l) m = world.fault_of_delivery l (slice_get sent d) m

-- what the event steps its router with
abbrev pub fed_by : List Datagram → WorldEvent → Option Event
fed_by sent (Start r dd floor) = None
fed_by sent (Stop r) = None
fed_by sent (Tick r) = Some Event.Tick
fed_by sent (LinkUp r l) = Some (Event.LinkUp l)
fed_by sent (LinkDown r l) = Some (Event.LinkDown l)
fed_by sent (Deliver d r l) = option_map (delivery l) (slice_get sent d)

-- the slot's router takes the exact step of the event, dropped for this cause if it is dropped,
-- which is counted, and the logs grow by exactly its outputs
pub record SlotGoesOn (e : Event) (before : SlotValue) (logs : LogsValue) (after : SlotValue)
    (logs' : LogsValue) : Type 0 where
  pub x : Running
  pub x' : Running
  pub out : OutputsValue
  pub was : before.running ≡ Some x
  pub dropped : Option Dropped
  pub is : after ≡ with_running before (Some x') (with_dropped e dropped before.drops)
  pub steps : StepsArea e x.state dropped out x'.state
  pub lawful : IsLawful e x.state out x'.state
  pub table : HasItsTable x'
  pub takes : LogsTake logs logs' before.config.router_id x.first x.later out
  pub runs : RunsGoOn logs'.issued out.ended x x'

-- the slot's router, if it runs, is stepped with the event: it continues; or memory ran out, which
-- it does at no event that is dropped, it is stopped, and no log grows
pub data Feeds (e : Event) (before : SlotValue) (logs : LogsValue)
    (result : Result (Unit {0}) WorldFault) (after : SlotValue) (logs' : LogsValue) : Type 0 where
  NotRunning : before.running ≡ None → result ≡ Err fault.NotRunning → after ≡ before → logs' ≡ logs
      → Feeds e before logs result after logs'
  Goes : result ≡ Ok tt → SlotGoesOn e before logs after logs'
      → Feeds e before logs result after logs'
  MemoryStops : (x : Running) → before.running ≡ Some x → dropped_by e x.state ≡ None
      → result ≡ Err (fault.Memory true) → after ≡ with_running before None [] → logs' ≡ logs
      → Feeds e before logs result after logs'

-- the same on a link, if the router has it
pub data FeedsOn (l : ℕ) (e : Event) (before : SlotValue) (logs : LogsValue)
    (result : Result (Unit {0}) WorldFault) (after : SlotValue) (logs' : LogsValue) : Type 0 where
  NoLink : nat_lt l (vec_len before.config.interfaces) ≡ false → result ≡ Err fault.NoLink
      → after ≡ before → logs' ≡ logs → FeedsOn l e before logs result after logs'
  OnLink : nat_lt l (vec_len before.config.interfaces) ≡ true
      → Feeds e before logs result after logs' → FeedsOn l e before logs result after logs'

-- and with a datagram, if it was sent
pub data DeliversOn (l : ℕ) (sent : Option Datagram) (before : SlotValue) (logs : LogsValue)
    (result : Result (Unit {0}) WorldFault) (after : SlotValue) (logs' : LogsValue) : Type 0 where
  NoLink : nat_lt l (vec_len before.config.interfaces) ≡ false → result ≡ Err fault.NoLink
      → after ≡ before → logs' ≡ logs → DeliversOn l sent before logs result after logs'
  NoDatagram : nat_lt l (vec_len before.config.interfaces) ≡ true → sent ≡ None
      → result ≡ Err fault.NoDatagram → after ≡ before → logs' ≡ logs
      → DeliversOn l sent before logs result after logs'
  Delivers : nat_lt l (vec_len before.config.interfaces) ≡ true → (g : Datagram) → sent ≡ Some g
      → Feeds (delivery l g) before logs result after logs'
      → DeliversOn l sent before logs result after logs'

-- its router must start above the floor, as its configuration and this number say
pub data StartsSlot (issued : List Issued) (dd_start : ℕ) (floor : ℤ) (before : SlotValue)
    (result : Result (Unit {0}) WorldFault) (after : SlotValue) : Type 0 where
  IsRunning : (x : Running) → before.running ≡ Some x → result ≡ Err fault.Running → after ≡ before
      → StartsSlot issued dd_start floor before result after
  AtFloor : before.running ≡ None → floor ≡ max_sequence_number → result ≡ Err fault.Floor
      → after ≡ before → StartsSlot issued dd_start floor before result after
  NotDone : before.running ≡ None → int_eq floor max_sequence_number ≡ false
      → result ≡ Err (fault.Memory false) → after ≡ before
      → StartsSlot issued dd_start floor before result after
  Begins : before.running ≡ None → int_eq floor max_sequence_number ≡ false → (x : Running)
      → result ≡ Ok tt
      → after ≡ with_running before (Some x) (none_dropped_on before.config.interfaces.items)
      → StartsAs before.config dd_start floor issued x
      → StartsSlot issued dd_start floor before result after

-- its router must stop
pub data StopsSlot (before : SlotValue) (result : Result (Unit {0}) WorldFault) (after : SlotValue)
    : Type 0 where
  IsStopped : before.running ≡ None → result ≡ Err fault.NotRunning → after ≡ before
      → StopsSlot before result after
  Ends : (x : Running) → before.running ≡ Some x → result ≡ Ok tt
      → after ≡ with_running before None [] → StopsSlot before result after

-- what an event that is not refused does: memory runs out, before anything is done or, at an
-- event that is not dropped, so that the router stops; or the router starts exactly as it is
-- configured, stops, or takes the exact step of what the event feeds it
pub data SlotTakes (event : WorldEvent) (before : SlotValue) (logs : LogsValue)
    (result : Result (Unit {0}) WorldFault) (after : SlotValue) (logs' : LogsValue) : Type 0 where
  NotDone : WantsRoom event → result ≡ Err (fault.Memory false) → after ≡ before → logs' ≡ logs
      → SlotTakes event before logs result after logs'
  MemoryStops : (x : Running) (e : Event) → before.running ≡ Some x
      → fed_by logs.datagrams event ≡ Some e → dropped_by e x.state ≡ None
      → result ≡ Err (fault.Memory true) → after ≡ with_running before None [] → logs' ≡ logs
      → SlotTakes event before logs result after logs'
  Starts : (r : RouterId) (dd_start : ℕ) (floor : ℤ) (x : Running) → event ≡ Start r dd_start floor
      → result ≡ Ok tt → before.running ≡ None
      → after ≡ with_running before (Some x) (none_dropped_on before.config.interfaces.items)
      → StartsAs before.config dd_start floor logs.issued x → logs' ≡ logs
      → SlotTakes event before logs result after logs'
  Stops : (r : RouterId) → event ≡ Stop r → result ≡ Ok tt → after ≡ with_running before None []
      → logs' ≡ logs → SlotTakes event before logs result after logs'
  Stepped : (e : Event) → fed_by logs.datagrams event ≡ Some e → result ≡ Ok tt
      → SlotGoesOn e before logs after logs' → SlotTakes event before logs result after logs'

-- what an event does at its router's slot: it is refused, with the first fault
-- that holds, exactly where one does
pub data SlotSteps (event : WorldEvent) (before : SlotValue) (logs : LogsValue)
    (result : Result (Unit {0}) WorldFault) (after : SlotValue) (logs' : LogsValue) : Type 0 where
  Refused : (f : WorldFault) → refused_by logs.datagrams event (member_of before) ≡ Some f
      → result ≡ Err f → after ≡ before → logs' ≡ logs
      → SlotSteps event before logs result after logs'
  Taken : refused_by logs.datagrams event (member_of before) ≡ None
      → SlotTakes event before logs result after logs'
      → SlotSteps event before logs result after logs'
