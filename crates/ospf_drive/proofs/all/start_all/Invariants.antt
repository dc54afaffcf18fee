use Rattle.std.proofs.Common.{◌≡◌, ◌+◌, ◌<◌, ◌≤◌, ◌++◌, ◌^◌, All, vec_len, vec_capacity}
use Rattle.std.specs.List.{AllZip}
use Rattle.ospf_drive.specs.Driven.{IsDriverStarted}
use Rattle.ospf_drive.specs.Moments.{at}
use Rattle.ospf_drive.proofs.all.start_all.Given as goal

-- each job so far has its thread, and there is room for those of the jobs that are left
abbrev pub invariant-loop-job : goal.invariant-loop-job
invariant-loop-job g l = record {
  walked : l.fn.jobs.items ≡ l.yielded ++ l.job-iterator.rest.items;
  fresh : All (λ job. g.W.Wire.failed job.1 + 1 < 2 ^ 64) l.job-iterator.rest.items;
  room : vec_len l.threads + l.job-iterator.rest.len ≤ vec_capacity l.threads;
  started : AllZip (λ job thread. IsDriverStarted (at (g.M.Machine.value job.0) (g.W.Wire.traffic job.1) (g.W.Wire.failed job.1) job.2) thread) l.yielded l.threads.items;
}
