-- The statuses that runs end with.
use Rattle.std.proofs.Common.{◌≡◌, ◌∙◌, sym, subst, Bool, true, false, List, cond}
use Rattle.ospf_drive.specs.Machines.{Rules}
use Rattle.ospf_files.proofs.Cut.{failed_not_done, failed_not_refused, failed_not_words}
use Rattle.ospf_files.specs.Streams.{Written}
use Rattle.ospf_files.specs.declared.files.NamedFile.{NamedFile}
use Rattle.ospf_files.specs.declared.status.Status.{Status}
use Rattle.ospf_files.specs.declared.status.Status.TheVariants as status
use Rattle.std.specs.List.{list_any}
use Rattle.ospf_run.specs.Cut.{EndsRun, comes, cut_short}
use Rattle.ospf_drive.specs.UdpWire.Obstacles.{obstacle_status}
use Rattle.ospf_drive.specs.declared.udp.stop.Obstacle.{Obstacle}
use Rattle.ospf_drive.specs.declared.udp.stop.Obstacle.TheVariants as obstacle
use Rattle.ospf_run.specs.Printed.{is_early, is_failed}
use Rattle.ospf_run.specs.Runs.{Asked, ComesOfRun, IsHindered, IsPlanRun, hindered, ran}

not_refused : (a b : Bool) → cond a status.Stream (cond b status.Memory status.Done) ≡ status.Refused → ⊥
not_refused true b is = absurd (cc is)
not_refused false true is = absurd (cc is)
not_refused false false is = absurd (cc is)

not_words : (a b : Bool) → cond a status.Stream (cond b status.Memory status.Done) ≡ status.Words → ⊥
not_words true b is = absurd (cc is)
not_words false true is = absurd (cc is)
not_words false false is = absurd (cc is)

-- what keeps routers from running is not that all is done, and not that the words are none
obstacle_not_done : (o : Obstacle) → obstacle_status o ≡ status.Done → ⊥
obstacle_not_done obstacle.NoNumber is = absurd (cc is)
obstacle_not_done obstacle.GreatestFloor is = absurd (cc is)
obstacle_not_done (obstacle.Unread file) is = absurd (cc is)
obstacle_not_done (obstacle.NoConfig file fault) is = absurd (cc is)
obstacle_not_done (obstacle.SameRouter twins) is = absurd (cc is)
obstacle_not_done (obstacle.NoPort file number) is = absurd (cc is)
obstacle_not_done (obstacle.NoSocket file none) is = absurd (cc is)

obstacle_not_words : (o : Obstacle) → obstacle_status o ≡ status.Words → ⊥
obstacle_not_words obstacle.NoNumber is = absurd (cc is)
obstacle_not_words obstacle.GreatestFloor is = absurd (cc is)
obstacle_not_words (obstacle.Unread file) is = absurd (cc is)
obstacle_not_words (obstacle.NoConfig file fault) is = absurd (cc is)
obstacle_not_words (obstacle.SameRouter twins) is = absurd (cc is)
obstacle_not_words (obstacle.NoPort file number) is = absurd (cc is)
obstacle_not_words (obstacle.NoSocket file none) is = absurd (cc is)

run_not_refused : {rules : Rules} (asked : Asked) (files : List NamedFile) (s : Status) (old new : Written)
    → IsPlanRun rules asked files s old new → s ≡ status.Refused → ⊥
run_not_refused {rules} asked files s old new run is =
    not_refused (list_any is_failed run.outcomes) (list_any is_early run.outcomes) (sym run.reported.status_is ∙ is)

run_not_words : {rules : Rules} (asked : Asked) (files : List NamedFile) (s : Status) (old new : Written)
    → IsPlanRun rules asked files s old new → s ≡ status.Words → ⊥
run_not_words {rules} asked files s old new run is =
    not_words (list_any is_failed run.outcomes) (list_any is_early run.outcomes) (sym run.reported.status_is ∙ is)

-- where all is done, all has run
done_runs : {rules : Rules} (asked : Asked) (files : List NamedFile) (s : Status) (old new : Written)
    → ComesOfRun rules asked files s old new → s ≡ status.Done → IsPlanRun rules asked files status.Done old new
done_runs {rules} asked files s old new (hindered h) done = absurd (obstacle_not_done h.obstacle (sym h.status_is ∙ done))
done_runs {rules} asked files s old new (ran run) done = subst (λ (t : Status). IsPlanRun rules asked files t old new) done run

-- what is refused is told, and nothing is written
refused_told : {rules : Rules} (asked : Asked) (files : List NamedFile) (s : Status) (old new : Written)
    → ComesOfRun rules asked files s old new → s ≡ status.Refused → IsHindered asked files status.Refused old new
refused_told {rules} asked files s old new (hindered h) so = subst (λ (t : Status). IsHindered asked files t old new) so h
refused_told {rules} asked files s old new (ran run) so = absurd (run_not_refused asked files s old new run so)

-- no run ends for its words
comes_not_words : {rules : Rules} (asked : Asked) (files : List NamedFile) (s : Status) (old new : Written)
    → ComesOfRun rules asked files s old new → s ≡ status.Words → ⊥
comes_not_words {rules} asked files s old new (hindered h) so = obstacle_not_words h.obstacle (sym h.status_is ∙ so)
comes_not_words {rules} asked files s old new (ran run) so = run_not_words asked files s old new run so

-- ---- the same of a run that may be cut

pub end_done : {rules : Rules} (asked : Asked) (files : List NamedFile) (s : Status) (old new : Written)
    → EndsRun rules asked files s old new → s ≡ status.Done → IsPlanRun rules asked files status.Done old new
end_done {rules} asked files s old new (comes c) done = done_runs asked files s old new c done
end_done {rules} asked files s old new (cut_short failed cut) done = absurd (failed_not_done cut.cause (sym cut.status_is ∙ done))

pub end_refused : {rules : Rules} (asked : Asked) (files : List NamedFile) (s : Status) (old new : Written)
    → EndsRun rules asked files s old new → s ≡ status.Refused → IsHindered asked files status.Refused old new
end_refused {rules} asked files s old new (comes c) so = refused_told asked files s old new c so
end_refused {rules} asked files s old new (cut_short failed cut) so = absurd (failed_not_refused cut.cause (sym cut.status_is ∙ so))

pub end_not_words : {rules : Rules} (asked : Asked) (files : List NamedFile) (s : Status) (old new : Written)
    → EndsRun rules asked files s old new → s ≡ status.Words → ⊥
end_not_words {rules} asked files s old new (comes c) so = comes_not_words asked files s old new c so
end_not_words {rules} asked files s old new (cut_short failed cut) so = failed_not_words cut.cause (sym cut.status_is ∙ so)
