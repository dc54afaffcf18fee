-- A running router in a world, and its numbering runs.
use Rattle.std.specs.Prelude.{◌≡◌, ℕ, ℤ, List, [], Option, None, Some, length, option_map}
use Rattle.ospf_area.specs.Outputs.{OutputsValue}
use Rattle.ospf_area.specs.State.{AreaValue}
use Rattle.ospf_base.specs.declared.ids.LsaKey.{LsaKey}
use Rattle.ospf_base.specs.declared.ids.RouterId.{RouterId}
use Rattle.ospf_config.specs.declared.config.Config.{Config}
use Rattle.ospf_world.specs.World.{HasItsTable, IsRunningStarted, Running, RunsGoOn}
use Rattle.ospf_world.specs.declared.logs.Datagram.{Datagram}
use Rattle.ospf_world.specs.declared.logs.Issued.{Issued}
use Rattle.ospf_world.specs.declared.logs.Run.{Run}
use Rattle.ospf_router.specs.AreaStep.Counts.{with_dropped, none_dropped_on}
use Rattle.ospf_router.specs.AreaStep.Drops.{dropped_by}
use Rattle.ospf_router.specs.AreaStep.Step.{Event}
use Rattle.ospf_router.specs.declared.step.counts.DropCounts.{DropCounts}
use Rattle.ospf_router.specs.declared.step.dropped.Dropped.{Dropped}
use Rattle.ospf_router.specs.Routers.{RouterValue}
use Rattle.ospf_router.specs.Starts.{IsAreaOf}
use Rattle.ospf_router.specs.AreaStep.Lawful.{IsLawful}
use Rattle.ospf_router.specs.AreaStep.Steps.{StepsArea}
use Rattle.ospf_world.specs.Logs.{BeginAgain, LogsTake, LogsValue}

-- a router, the run of its keys since its start, the later runs of single keys, and what it dropped
-- since its start, by links
pub record RunningValue : Type 0 where
  pub router : RouterValue
  pub first : Run
  pub later : List (LsaKey × Run)
  pub drops : List DropCounts

-- how it runs, in this area
abbrev pub runs_in : RunningValue → AreaValue → Running
runs_in v s = record { state = s; table = v.router.table; first = v.first; later = v.later }

-- how it runs, if it has not stopped
abbrev pub running_of : RunningValue → Option Running
running_of v = option_map (runs_in v) v.router.area

-- it has not stopped
abbrev pub Lives : RunningValue → Type 0
Lives v = (s : AreaValue) × (v.router.area ≡ Some s)

-- it is exactly as a router of this configuration starts, with this first number of a description
-- above the floor; and where these LSAs were issued before, its first run begins now
pub record StartsAs (config : Config) (dd_start : ℕ) (floor : ℤ) (issued : List Issued)
    (x : Running) : Type 0 where
  pub area : IsAreaOf config dd_start floor x.state
  pub table : x.table ≡ []
  pub begins : IsRunningStarted issued config.router_id floor x

-- it has just started, when this many LSAs were issued before
pub record Begins (config : Config) (dd_start issued : ℕ) (floor : ℤ) (v : RunningValue)
    : Type 0 where
  pub area : AreaValue
  pub runs : v.router.area ≡ Some area
  pub started : (log : List Issued) → length log ≡ issued
      → StartsAs config dd_start floor log (runs_in v area)
  pub drops : v.drops ≡ none_dropped_on config.interfaces.items

-- the logs grow by exactly these outputs, and the runs that have ended begin again
pub record SettlesLogs (r : RouterId) (before : RunningValue) (out : OutputsValue)
    (logs : LogsValue) (after : RunningValue) (logs' : LogsValue) : Type 0 where
  pub router : after.router ≡ before.router
  pub first : after.first ≡ before.first
  pub takes : LogsTake logs logs' r before.first before.later out
  pub again : BeginAgain (length logs'.issued) out.ended before.later after.later
  pub drops : after.drops ≡ before.drops

-- a running router takes the exact step of the event, and the logs grow by exactly its
-- outputs; that it is dropped is counted
pub record Fed (r : RouterId) (e : Event) (before : RunningValue) (logs : LogsValue)
    (after : RunningValue) (logs' : LogsValue) : Type 0 where
  pub area : AreaValue
  pub next : AreaValue
  pub out : OutputsValue
  pub was : before.router.area ≡ Some area
  pub is : after.router.area ≡ Some next
  pub dropped : Option Dropped
  pub steps : StepsArea e area dropped out next
  pub lawful : IsLawful e area out next
  pub table : HasItsTable (runs_in after next)
  pub takes : LogsTake logs logs' r before.first before.later out
  pub runs : RunsGoOn logs'.issued out.ended (runs_in before area) (runs_in after next)
  pub drops : after.drops ≡ with_dropped e dropped before.drops

-- memory may run out in its step: the event is none that is dropped, which takes none
abbrev pub NeedsMemory : Event → RunningValue → Type 0
NeedsMemory e v = (s : AreaValue) → v.router.area ≡ Some s → dropped_by e s ≡ None

-- what a datagram that was sent steps a router with
abbrev pub delivery : ℕ → Datagram → Event
delivery l g = Event.Datagram l g.sent.source g.sent.destination g.sent.bytes
