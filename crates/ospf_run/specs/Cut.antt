-- What was written when memory runs out, a stream fails or a published table is closed before a run
-- ends.
use Rattle.std.specs.Prelude.{⊤, ◌≡◌, ◌≢◌, ℕ, ℤ, List, [], Option, Result, Ok, Err, IsSome}
use Rattle.ospf_base.specs.declared.ids.Addr.{Addr}
use Rattle.ospf_config.specs.declared.config.Config.{Config}
use Rattle.ospf_drive.specs.Machines.{Rules}
use Rattle.ospf_files.specs.Status.{failure_line, failure_status}
use Rattle.ospf_files.specs.Streams.{IsBegun, IsErrorCut, IsTold, Written}
use Rattle.ospf_files.specs.declared.files.NamedFile.{NamedFile}
use Rattle.ospf_files.specs.declared.status.Failure.{Failure}
use Rattle.ospf_files.specs.declared.status.Failure.TheVariants as failure
use Rattle.ospf_files.specs.declared.status.Status.{Status}
use Rattle.ospf_files.specs.declared.streams.FailedStreams.{FailedStreams}
use Rattle.ospf_drive.specs.UdpWire.Obstacles.{Hinders, obstacle_line}
use Rattle.ospf_drive.specs.UdpWire.Plans.{HasPlan, IsPlan}
use Rattle.ospf_run.specs.Printed.{IsReportCut}
use Rattle.ospf_run.specs.Runs.{AreExtras, Asked, ComesOfRun, HaveRun, asked_of}
use Rattle.ospf_run.specs.declared.outcome.Extras.{Extras}
use Rattle.ospf_run.specs.declared.outcome.Outcome.{Outcome}
use Rattle.ospf_run.specs.declared.settings.Settings.{Settings}
use Rattle.ospf_drive.specs.declared.udp.stop.Obstacle.{Obstacle}
use Rattle.ospf_drive.specs.declared.udp.stop.Stop.{Stop}
use Rattle.ospf_drive.specs.declared.udp.stop.Stop.TheVariants as stop

-- what fails before anything is written: memory ran out; or, if there is a plan of at least one
-- router and an address is looked up, a table that a router publishes was closed
pub data IsEarly (asked : Asked) (files : List NamedFile) : Failure → Type 0 where
  no_memory : IsEarly asked files failure.Memory
  closed : IsSome asked.lookup → files ≢ [] → HasPlan asked.floor files
      → IsEarly asked files failure.Closed

-- a run is cut: before anything is written; in the report of what keeps the routers from running;
-- or in the report on the routers
pub data IsRunCut (rules : Rules) (asked : Asked) (files : List NamedFile) (failed : FailedStreams)
    (old new : Written) (f : Failure) : Type 0 where
  before_all : IsEarly asked files f → new.out ≡ old.out → new.err ≡ old.err
      → IsRunCut rules asked files failed old new f
  in_obstacle : (obstacle : Obstacle) → Hinders asked.floor files obstacle → IsErrorCut failed f
      → new.out ≡ old.out → IsBegun old.err new.err (obstacle_line obstacle)
      → IsRunCut rules asked files failed old new f
  in_report : (outcomes : List Outcome) (extras : Extras) → HaveRun rules asked files outcomes
      → AreExtras asked extras
      → IsReportCut extras outcomes failed old new f → IsRunCut rules asked files failed old new f

-- a failure cut a run; it was reported last, as far as it could be written, and it gives the status
pub record IsRunCutShort (rules : Rules) (asked : Asked) (files : List NamedFile)
    (failed : FailedStreams) (status : Status) (old new : Written) : Type 0 where
  pub cause : Failure
  pub failed_then : FailedStreams
  pub err_then : Option (List ℕ)
  pub cut : IsRunCut rules asked files failed_then old (record new { err = err_then }) cause
  pub last : IsTold failed_then failed err_then new.err (failure_line cause)
  pub status_is : status ≡ failure_status cause

-- how the program ends: a run reaches its end, or it is cut short
pub data EndsRun (rules : Rules) (asked : Asked) (files : List NamedFile) (status : Status)
    (old new : Written) : Type 0 where
  comes : ComesOfRun rules asked files status old new → EndsRun rules asked files status old new
  cut_short : (failed : FailedStreams) → IsRunCutShort rules asked files failed status old new
      → EndsRun rules asked files status old new

-- what is requested reaches its end with this status, or this failure cuts it
abbrev pub EndsBy : Rules → Settings → List NamedFile → FailedStreams → Written → Written
    → Result Status Failure → Type 0
EndsBy rules settings files failed old new (Ok status) =
    ComesOfRun rules (asked_of settings) files status old new
EndsBy rules settings files failed old new (Err failure) =
    IsRunCut rules (asked_of settings) files failed old new failure

-- the status that is returned
abbrev pub last_status : Result Status Failure → Status
last_status (Ok status) = status
last_status (Err failure) = failure_status failure

-- ---- intermediate results

-- why the routers did not run to their end
abbrev pub IsStop : Asked → List NamedFile → Stop → Type 0
IsStop asked files (stop.Obstacle obstacle) = Hinders asked.floor files obstacle
IsStop asked files (stop.Failure f) = IsEarly asked files f

-- why the routers of these configurations did not run to their end, if they are the plan of the
-- files
abbrev pub IsStopOfPlan : List NamedFile → List Config → Stop → Type 0
IsStopOfPlan files configs s =
    (asked : Asked) (least : ℤ) → IsPlan asked.floor files configs least → IsStop asked files s

-- what failed of a plan before anything was written: memory ran out; or, if an address is looked
-- up, a table that a router of one of these files publishes was closed
abbrev pub FailsPlan : Option Addr → List NamedFile → Failure → Type 0
FailsPlan lookup files failure.Memory = ⊤
FailsPlan lookup files failure.Closed = IsSome lookup × (files ≢ [])
FailsPlan lookup files _ = ⊥
