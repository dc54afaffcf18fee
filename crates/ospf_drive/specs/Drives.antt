-- What a driver does.
use Rattle.std.specs.Prelude.{◌≡◌, ◌+◌, ◌<◌, ◌++◌, ℕ, List, [], ◌∷◌, true, Option, None, Some, Result, Ok, Err, take, length}
use Rattle.ospf_fib.specs.PrefixIndex.Known.{Known, Table}
use Rattle.ospf_area.specs.Outputs.{SentValue}
use Rattle.ospf_router.specs.AreaStep.Step.{Event}
use Rattle.ospf_router.specs.Routers.{stopped}
use Rattle.ospf_drive.specs.Machines.{Rules}
use Rattle.ospf_drive.specs.Moments.{Moment, Done, event_of, events_of, events_done, HasNoEnd, IsChain, left_by, sent_by, tables_published}
use Rattle.ospf_drive.specs.Traffic.{Heard, IsOver, and_goes}
use Rattle.ospf_drive.specs.Traffic.Heard.{End}
use Rattle.ospf_drive.specs.declared.fault.DriveFault.{DriveFault}
use Rattle.ospf_drive.specs.declared.fault.DriveFault.TheVariants as fault

-- the message of the last publish: it knows all that the writer has published
abbrev pub last_told : List Table → Known → Option Known
last_told [] known = None
last_told (table ∷ tables) known = Some known

-- From one moment to the other the driver took arrivals, none of them the end. Each that is not
-- ignored was a step of the router, by the rules of its machine. What the steps sent went out, in
-- order, if the wire reports its traffic, and each table that a step changed was published, in
-- order.
pub record DriverGoesOn (rules : Rules) (a b : Moment) (told : Option Known) : Type 0 where
  pub taken : List Heard
  pub steps : List Done
  pub no_end : HasNoEnd taken
  pub events : events_done steps ≡ events_of a.router.links taken
  pub chain : IsChain rules a.router steps
  pub router : b.router ≡ left_by a.router steps
  pub links : b.router.links ≡ a.router.links
  pub traffic : b.traffic ≡ and_goes taken (sent_by steps) a.traffic
  pub failed : b.failed ≡ a.failed
  pub fib : b.known.fib ≡ a.known.fib
  pub tables : b.known.tables ≡ a.known.tables ++ tables_published steps
  pub tells : told ≡ last_told (tables_published steps) b.known

-- the arrivals taken and the datagrams sent are these and no others
abbrev pub TrafficGoes : Moment → List Heard → List SentValue → Moment → Type 0
TrafficGoes a taken out b = b.traffic ≡ and_goes taken out a.traffic

-- the end came, and nothing else: where the wire counts its ticks, after as many as its span says
pub record Ended (a b : Moment) : Type 0 where
  pub router : b.router ≡ a.router
  pub traffic : TrafficGoes a (End ∷ []) [] b
  pub over : IsOver b.traffic
  pub failed : b.failed ≡ a.failed
  pub known : b.known ≡ a.known

-- the wire delivered nothing, and failed
pub record FailsToHear (a b : Moment) : Type 0 where
  pub router : b.router ≡ a.router
  pub traffic : TrafficGoes a [] [] b
  pub failed : b.failed ≡ a.failed + 1
  pub known : b.known ≡ a.known

-- an arrival was a step, and the wire failed before all that it sent had gone out
pub record FailsToSend (rules : Rules) (a b : Moment) : Type 0 where
  pub arrival : Heard
  pub step : Done
  pub count : ℕ
  pub event : event_of a.router.links arrival ≡ Some step.event
  pub steps : rules.steps step.event a.router step.gives step.after
  pub router : b.router ≡ step.after
  pub short : count < length step.gives.out.sent
  pub traffic : TrafficGoes a (arrival ∷ []) (take count step.gives.out.sent) b
  pub failed : b.failed ≡ a.failed + 1
  pub known : b.known ≡ a.known

-- an arrival was an event at which the router stopped, as its machine may
pub record Stops (rules : Rules) (a b : Moment) : Type 0 where
  pub arrival : Heard
  pub event : Event
  pub is_event : event_of a.router.links arrival ≡ Some event
  pub may_stop : rules.stops event a.router
  pub router : b.router ≡ stopped a.router
  pub traffic : TrafficGoes a (arrival ∷ []) [] b
  pub failed : b.failed ≡ a.failed
  pub known : b.known ≡ a.known

-- an arrival was a step that changed the table, all that it sent went out,
-- and the table was not published
pub record FailsToPublish (rules : Rules) (a b : Moment) : Type 0 where
  pub arrival : Heard
  pub step : Done
  pub event : event_of a.router.links arrival ≡ Some step.event
  pub steps : rules.steps step.event a.router step.gives step.after
  pub changed : step.gives.table_changed ≡ true
  pub router : b.router ≡ step.after
  pub traffic : TrafficGoes a (arrival ∷ []) step.gives.out.sent b
  pub failed : b.failed ≡ a.failed
  pub known : b.known ≡ a.known

-- how a driver's last turn ends
abbrev pub Fails : Rules → Moment → Moment → DriveFault → Type 0
Fails rules a b fault.Recv = FailsToHear a b
Fails rules a b fault.Send = FailsToSend rules a b
Fails rules a b fault.Stopped = Stops rules a b
Fails rules a b fault.Publish = FailsToPublish rules a b
Fails rules a b fault.Thread = ⊥

-- a drive ends well, with the message of the last publish, or by this fault
abbrev pub EndsDrive : Rules → Moment → Option Known → Moment
    → Result (Option Known) DriveFault → Type 0
EndsDrive rules a told b (Ok last) = Ended a b × (last ≡ told)
EndsDrive rules a told b (Err fault) = Fails rules a b fault

-- The driver takes arrivals, and then it ends: well, by the end that comes, or by a fault before
-- it.
pub record Drives (rules : Rules) (a b : Moment) (result : Result (Option Known) DriveFault)
    : Type 0 where
  pub last : Moment
  pub told : Option Known
  pub goes_on : DriverGoesOn rules a last told
  pub ends : EndsDrive rules last told b result
