-- A whole call of a driver: the arrivals that it took, and one list of steps.
use Rattle.std.specs.Prelude.{◌≡◌, ◌+◌, ◌<◌, ◌++◌, ℕ, List, [], ◌∷◌, true, Option, Result, Ok, Err, take, length}
use Rattle.ospf_area.specs.Outputs.{SentValue}
use Rattle.ospf_router.specs.AreaStep.Step.{Event}
use Rattle.ospf_fib.specs.PrefixIndex.Known.{Known, Table}
use Rattle.ospf_router.specs.Routers.{stopped}
use Rattle.ospf_drive.specs.Drives.{Drives, last_told}
use Rattle.ospf_drive.specs.Machines.{Rules}
use Rattle.ospf_drive.specs.Moments.{Moment, Done, HasNoEnd, IsChain, events_done, events_of, left_by, sent_by, tables_published}
use Rattle.ospf_drive.specs.Traffic.{EndsAfter, Heard, IsOver, and_goes, ticks_in}
use Rattle.ospf_drive.specs.Traffic.Carried.{Ticks}
use Rattle.ospf_drive.specs.Traffic.Heard.{End}
use Rattle.ospf_drive.specs.declared.fault.DriveFault.{DriveFault}
use Rattle.ospf_drive.specs.declared.fault.DriveFault.TheVariants as fault
use Rattle.ospf_drive.specs.declared.span.Span.{Span}

-- the last of them is an end, and no other
pub record EndsInEnd (taken : List Heard) : Type 0 where
  pub before : List Heard
  pub no_end : HasNoEnd before
  pub is : taken ≡ before ++ End ∷ []

-- one came after the others
pub record IsLastStep (steps before : List Done) (last : Done) : Type 0 where
  pub is : steps ≡ before ++ last ∷ []

-- the end came last, if the wire counts its ticks after as many as its span says: each arrival that
-- is not ignored was a step, all that these sent went out, and each table that one of them changed
-- was published. The driver returns the message of the last of these publishes
pub record EndsWell (a b : Moment) (taken : List Heard) (steps : List Done) (out : List SentValue)
    (tables : List Table) (told : Option Known) : Type 0 where
  pub ended : EndsInEnd taken
  pub over : IsOver b.traffic
  pub events : events_done steps ≡ events_of a.router.links taken
  pub router : b.router ≡ left_by a.router steps
  pub all_out : out ≡ sent_by steps
  pub all_published : tables ≡ tables_published steps
  pub tells : told ≡ last_told (tables_published steps) b.known
  pub failed : b.failed ≡ a.failed

-- the wire failed to deliver the next arrival
pub record EndsUnheard (a b : Moment) (taken : List Heard) (steps : List Done)
    (out : List SentValue) (tables : List Table) : Type 0 where
  pub no_end : HasNoEnd taken
  pub events : events_done steps ≡ events_of a.router.links taken
  pub router : b.router ≡ left_by a.router steps
  pub all_out : out ≡ sent_by steps
  pub all_published : tables ≡ tables_published steps
  pub failed : b.failed ≡ a.failed + 1

-- the wire failed before all that the last step sent had gone out
pub record EndsUnsent (a b : Moment) (taken : List Heard) (steps : List Done) (out : List SentValue)
    (tables : List Table) : Type 0 where
  pub before : List Done
  pub last : Done
  pub count : ℕ
  pub is_last : IsLastStep steps before last
  pub no_end : HasNoEnd taken
  pub events : events_done steps ≡ events_of a.router.links taken
  pub router : b.router ≡ left_by a.router steps
  pub short : count < length last.gives.out.sent
  pub some_out : out ≡ sent_by before ++ take count last.gives.out.sent
  pub published : tables ≡ tables_published before
  pub failed : b.failed ≡ a.failed + 1

-- the router stopped at the event that came after the steps, as its machine may
pub record EndsStopped (rules : Rules) (a b : Moment) (taken : List Heard) (steps : List Done)
    (out : List SentValue) (tables : List Table) : Type 0 where
  pub event : Event
  pub may_stop : rules.stops event (left_by a.router steps)
  pub no_end : HasNoEnd taken
  pub events : events_done steps ++ event ∷ [] ≡ events_of a.router.links taken
  pub router : b.router ≡ stopped (left_by a.router steps)
  pub all_out : out ≡ sent_by steps
  pub all_published : tables ≡ tables_published steps
  pub failed : b.failed ≡ a.failed

-- the last step changed the table, and this was not published
pub record EndsUnpublished (a b : Moment) (taken : List Heard) (steps : List Done)
    (out : List SentValue) (tables : List Table) : Type 0 where
  pub before : List Done
  pub last : Done
  pub is_last : IsLastStep steps before last
  pub no_end : HasNoEnd taken
  pub events : events_done steps ≡ events_of a.router.links taken
  pub router : b.router ≡ left_by a.router steps
  pub changed : last.gives.table_changed ≡ true
  pub all_out : out ≡ sent_by steps
  pub published : tables ≡ tables_published before
  pub failed : b.failed ≡ a.failed

-- the whole call, by its result
abbrev pub EndsAs : Rules → Moment → Moment → List Heard → List Done → List SentValue → List Table
    → Result (Option Known) DriveFault → Type 0
EndsAs rules a b taken steps out tables (Ok told) = EndsWell a b taken steps out tables told
EndsAs rules a b taken steps out tables (Err fault.Recv) = EndsUnheard a b taken steps out tables
EndsAs rules a b taken steps out tables (Err fault.Send) = EndsUnsent a b taken steps out tables
EndsAs rules a b taken steps out tables (Err fault.Stopped) =
    EndsStopped rules a b taken steps out tables
EndsAs rules a b taken steps out tables (Err fault.Publish) =
    EndsUnpublished a b taken steps out tables
EndsAs rules a b taken steps out tables (Err fault.Thread) = ⊥

-- From one moment to the other the driver took these arrivals, the router made these steps, one
-- after another, these datagrams went out and these tables were published; and so it ended.
pub record Whole (rules : Rules) (a b : Moment) (result : Result (Option Known) DriveFault)
    : Type 0 where
  pub taken : List Heard
  pub steps : List Done
  pub out : List SentValue
  pub tables : List Table
  pub chain : IsChain rules a.router steps
  pub traffic : b.traffic ≡ and_goes taken out a.traffic
  pub fib : b.known.fib ≡ a.known.fib
  pub published : b.known.tables ≡ a.known.tables ++ tables
  pub ends : EndsAs rules a b taken steps out tables result

-- what a driver of a machine of these rules does turn by turn is that
abbrev pub DrivesAreWhole : Rules → Type 0
DrivesAreWhole rules =
    (a b : Moment) (result : Result (Option Known) DriveFault) → Drives rules a b result
    → Whole rules a b result

-- if the wire counts its ticks, a driver that reaches the end has taken as many as come before the
-- end: all of them, and no more, if the wire cannot be signalled to end
abbrev pub AllTicksAreTaken : Rules → Type 0
AllTicksAreTaken rules =
    (a b : Moment) (told : Option Known) (handed : ℕ) (span : Span)
    (drives : Drives rules a b (Ok told)) → a.traffic ≡ Ticks handed span
    → EndsAfter span (handed + ticks_in drives.goes_on.taken)
