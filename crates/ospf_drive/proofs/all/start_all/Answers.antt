use Rattle.std.proofs.Common.{All, ◌+◌, ◌<◌, ◌++◌, ◌∷◌, [], ◌^◌, ap, arith, length, subst, sym}
use Rattle.std.specs.List.{AllZip}
use Rattle.ospf_drive.proofs.Jobs.{of_first, of_later}
use Rattle.ospf_drive.proofs.Joined.{all_gone, pairs_then, walked_on}
use Rattle.ospf_drive.specs.Driven.{IsDriverStarted}
use Rattle.ospf_drive.specs.Moments.{at}
use Rattle.ospf_drive.proofs.all.start_all.Goals as goal

pub loop-job-init : goal.loop-job-init
loop-job-init g c = record {
  walked = sym c.into_iter-job-iterator.ensures.into_iter_gives.0;
  fresh = subst (λ js. All (λ job. g.W.Wire.failed job.1 + 1 < 2 ^ 64) js) (sym c.into_iter-job-iterator.ensures.into_iter_gives.0) c.requires.fresh;
  room = omega (arith, c.into_iter-job-iterator.ensures.into_iter_gives.1, c.requires.room, ap (λ ts. length ts) c.requires.none);
  started = rw c.requires.none tt;
}

pub start-requires-after_bounds : goal.start-requires-after_bounds
start-requires-after_bounds g c κs within =
    of_first (λ job. g.W.Wire.failed job.1 + 1 < 2 ^ 64) c.loop-job.job-iterator.rest.items c.next.new.self.rest.items c.in-Some.job c.in-Some.ensures.steps.0 c.loop-job.invariant.fresh

pub loop-job-preserved : goal.loop-job-preserved
loop-job-preserved g c = record {
  walked = walked_on c.args.jobs.items c.loop-job.yielded c.loop-job.job-iterator.rest.items c.next.new.self.rest.items c.in-Some.job c.loop-job.invariant.walked c.in-Some.ensures.steps.0;
  fresh = of_later (λ job. g.W.Wire.failed job.1 + 1 < 2 ^ 64) c.loop-job.job-iterator.rest.items c.next.new.self.rest.items c.in-Some.job c.in-Some.ensures.steps.0 c.loop-job.invariant.fresh;
  room = omega (arith, c.in-Ok.ensures.capacity, c.in-Ok.ensures.len, c.in-Some.ensures.steps.1, c.loop-job.invariant.room);
  started = subst (λ ts. AllZip (λ job thread. IsDriverStarted (at (g.M.Machine.value job.0) (g.W.Wire.traffic job.1) (g.W.Wire.failed job.1) job.2) thread) (c.loop-job.yielded ++ c.in-Some.job ∷ []) ts) (sym c.in-Ok.ensures.items) (pairs_then (λ job thread. IsDriverStarted (at (g.M.Machine.value job.0) (g.W.Wire.traffic job.1) (g.W.Wire.failed job.1) job.2) thread) c.loop-job.yielded c.loop-job.threads.items c.in-Some.job c.start.result c.loop-job.invariant.started c.start.ensures);
}

pub returns : goal.returns
returns g c =
    all_gone (λ job thread. IsDriverStarted (at (g.M.Machine.value job.0) (g.W.Wire.traffic job.1) (g.W.Wire.failed job.1) job.2) thread) c.args.jobs.items c.loop-job.yielded c.loop-job.job-iterator.rest.items c.loop-job.threads.items c.loop-job.invariant.walked (omega (arith, c.in-None.ensures.steps.0)) c.loop-job.invariant.started
