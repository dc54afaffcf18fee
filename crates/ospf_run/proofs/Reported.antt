-- How runs end.
use Rattle.std.proofs.Common.{◌≡◌, refl, sym, subst, ℕ, List, Option, Result, Ok, Err, IfErr, IfOk, OnOk}
use Rattle.std.specs.Result.{IsErrAnd}
use Rattle.std.specs.Io.KnownBytes.{Appends}
use Rattle.ospf_drive.specs.Machines.{Rules}
use Rattle.ospf_files.specs.Status.{failure_line}
use Rattle.ospf_files.specs.Streams.{IsTold, Written, written_on}
use Rattle.ospf_files.specs.declared.files.NamedFile.{NamedFile}
use Rattle.ospf_files.specs.declared.status.Failure.{Failure}
use Rattle.ospf_files.specs.declared.status.Status.{Status}
use Rattle.ospf_files.specs.declared.streams.FailedStreams.{FailedStreams}
use Rattle.ospf_run.specs.Cut.{EndsRun, EndsBy, IsRunCut, comes, cut_short, in_report, last_status}
use Rattle.ospf_drive.specs.UdpWire.Obstacles.{Hinders, obstacle_line, obstacle_status}
use Rattle.ospf_run.specs.Printed.{IsReportCut, AreOutcomesReported}
use Rattle.ospf_run.specs.Runs.{AreExtras, Asked, ComesOfRun, HaveRun, asked_of, hindered, ran}
use Rattle.ospf_run.specs.declared.outcome.Extras.{Extras}
use Rattle.ospf_run.specs.declared.outcome.Outcome.{Outcome}
use Rattle.ospf_run.specs.declared.settings.Settings.{Settings}
use Rattle.ospf_drive.specs.declared.udp.stop.Obstacle.{Obstacle}

-- what keeps the routers from running is told
pub obstacle_comes : {rules : Rules} (asked : Asked) (files : List NamedFile) (o : Obstacle) (oo eo en : Option (List ℕ))
    → Hinders asked.floor files o → Appends eo en (obstacle_line o) → ComesOfRun rules asked files (obstacle_status o) (written_on oo eo) (written_on oo en)
obstacle_comes {rules} asked files o oo eo en is told = hindered (record { obstacle = o; hinders = is; status_is = refl; told = told; unwritten = refl })

-- what came of the routers is reported
pub report_comes : {rules : Rules} (asked : Asked) (files : List NamedFile) (outcomes outcomes' : List Outcome) (extras : Extras) (s : Status)
    (old new : Written) → HaveRun rules asked files outcomes → AreExtras asked extras → outcomes' ≡ outcomes
    → AreOutcomesReported extras outcomes' s old new → ComesOfRun rules asked files s old new
report_comes {rules} asked files outcomes outcomes' extras s old new has wanted same reported =
    ran (record {
      outcomes = outcomes;
      extras = extras;
      run = has;
      wanted = wanted;
      reported = subst (λ (os : List Outcome). AreOutcomesReported extras os s old new) same reported;
    })

-- and their report may be cut
pub report_cut : {rules : Rules} (asked : Asked) (files : List NamedFile) (outcomes outcomes' : List Outcome) (extras : Extras) (failed : FailedStreams)
    (f : Failure) (old new : Written) → HaveRun rules asked files outcomes → AreExtras asked extras → outcomes' ≡ outcomes
    → IsReportCut extras outcomes' failed old new f → IsRunCut rules asked files failed old new f
report_cut {rules} asked files outcomes outcomes' extras failed f old new has wanted same cut =
    in_report outcomes extras has wanted (subst (λ (os : List Outcome). IsReportCut extras os failed old new f) same cut)

-- a status, or a failure
pub ends_by : (rules : Rules) (settings : Settings) (files : List NamedFile) (failed : FailedStreams) (old new : Written) (r : Result Status Failure)
    → IfOk r (λ s. ComesOfRun rules (asked_of settings) files s old new)
    → IfErr r (λ f. IsRunCut rules (asked_of settings) files failed old new f) → EndsBy rules settings files failed old new r
ends_by rules settings files failed old new (Ok s) come cut = come
ends_by rules settings files failed old new (Err f) come cut = cut

-- a failure that is passed on
pub ends_by_failure : {rules : Rules} (settings : Settings) (files : List NamedFile) (failed : FailedStreams) (old new : Written) (r : Result Status Failure) (f : Failure)
    → IsErrAnd r (λ x. x ≡ f) → IsRunCut rules (asked_of settings) files failed old new f → EndsBy rules settings files failed old new r
ends_by_failure {rules} settings files failed old new (Ok s) f is cut = absurd is
ends_by_failure {rules} settings files failed old new (Err x) f is cut =
    subst (λ (y : Failure). IsRunCut rules (asked_of settings) files failed old new y) (sym is) cut

-- the failure that cuts a run is told last
pub all_ends : {rules : Rules} (settings : Settings) (files : List NamedFile) (said : Result Status Failure) (s : Status) (then last : FailedStreams) (old : Written) (out em en : Option (List ℕ))
    → EndsBy rules settings files then old (written_on out em) said → s ≡ last_status said → OnOk said (en ≡ em) → IfErr said (λ f. IsTold then last em en (failure_line f))
    → EndsRun rules (asked_of settings) files s old (written_on out en)
all_ends {rules} settings files (Ok status) s then last old out em en comes_so is same told =
    comes (subst (λ (e : Option (List ℕ)). ComesOfRun rules (asked_of settings) files s old (written_on out e)) (sym same)
    (subst (λ (t : Status). ComesOfRun rules (asked_of settings) files t old (written_on out em)) (sym is) comes_so))
all_ends {rules} settings files (Err f) s then last old out em en cut is same told =
    cut_short last (record { cause = f; failed_then = then; err_then = em; cut = cut; last = told; status_is = is })
