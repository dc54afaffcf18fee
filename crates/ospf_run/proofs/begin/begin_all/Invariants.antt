use Rattle.std.proofs.Common.{◌≡◌, ◌+◌, ◌++◌, ◌<◌, ◌^◌, All, length, map, take}
use Rattle.std.specs.List.{AllZip}
use Rattle.ospf_run.specs.Runs.{BeginsRun}
use Rattle.ospf_run.proofs.begin.begin_all.Given as goal

-- the routers of the configurations so far have begun, and a wire is left for each other
abbrev pub invariant-loop-config : goal.invariant-loop-config
invariant-loop-config g l = record {
  left : l.wires.rest.len + l.config-index ≡ length l.configs;
  fresh : All (λ wire. g.W.Wire.failed wire + 1 < 2 ^ 64) l.wires.rest.items;
  over : map (λ job. job.1) l.jobs.items ++ l.wires.rest.items ≡ l.fn.wires.items;
  begins : AllZip (λ config job. BeginsRun l.floor config (g.M.Machine.value job.0) job.2) (take l.config-index l.configs) l.jobs.items;
  jobs_fresh : All (λ job. g.W.Wire.failed job.1 + 1 < 2 ^ 64) l.jobs.items;
  seats : AllZip (λ job seat. seat ≡ job.2) l.jobs.items l.seats.items;
}
