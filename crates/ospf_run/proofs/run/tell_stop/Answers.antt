use Rattle.std.proofs.Common.{refl, subst, sym}
use Rattle.ospf_files.specs.Streams.{written_on}
use Rattle.ospf_run.proofs.Reported.{ends_by_failure, obstacle_comes}
use Rattle.ospf_run.specs.Cut.{IsStop, before_all, in_obstacle}
use Rattle.ospf_run.specs.Runs.{ComesOfRun, asked_of}
use Rattle.ospf_run.proofs.run.tell_stop.Goals as goal

pub returns-in_err-tell_obstacle-in-Obstacle : goal.returns-in_err-tell_obstacle-in-Obstacle
returns-in_err-tell_obstacle-in-Obstacle g c = λ out.
    let hinders = subst (IsStop (asked_of c.args.settings.now) c.args.files.now) c.in-Obstacle.is c.requires in
    ends_by_failure c.args.settings.now c.args.files.now c.tell_obstacle.new.streams _ _ c.from_residual.result c.in_err-tell_obstacle-in-Obstacle.field-0.0 c.from_residual.ensures.1
    (in_obstacle c.in-Obstacle.obstacle hinders c.in_err-tell_obstacle-in-Obstacle.ensures.cut refl c.in_err-tell_obstacle-in-Obstacle.ensures.begun)

pub returns-in_ok-tell_obstacle-in-Obstacle : goal.returns-in_ok-tell_obstacle-in-Obstacle
returns-in_ok-tell_obstacle-in-Obstacle g c = λ out.
    let settings = c.args.settings.now in
    let hinders = subst (IsStop (asked_of settings) c.args.files.now) c.in-Obstacle.is c.requires in
    subst (λ status. ComesOfRun g.M.Machine.rules (asked_of settings) c.args.files.now status (written_on out (g.E.Write.contents c.args.err.now)) (written_on out (g.E.Write.contents c.tell_obstacle.new.err)))
    (sym c.status_of.ensures)
    (obstacle_comes (asked_of settings) c.args.files.now c.in-Obstacle.obstacle _ _ _ hinders c.in_ok-tell_obstacle-in-Obstacle.ensures.told)

pub returns-in-Failure : goal.returns-in-Failure
returns-in-Failure g c = λ out.
    before_all (subst (IsStop (asked_of c.args.settings.now) c.args.files.now) c.in-Failure.is c.requires) refl refl
