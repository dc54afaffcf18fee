use Rattle.std.proofs.Common.{rules, ◌≡◌, ◌+◌, ◌<◌, ◌^◌, ℤ, arith, of_z, subst, sym, to_z, w32}
use Rattle.std.proofs.lemmas.List.{take_all}
use Rattle.std.specs.List.{AllZip}
use Rattle.ospf_drive.proofs.Jobs.{of_first, of_later}
use Rattle.ospf_run.proofs.Lists.{all_more, over_all, over_more, pairs_both, pairs_more}
use Rattle.ospf_run.specs.Runs.{BeginsRun}
use Rattle.ospf_run.proofs.begin.begin_all.Goals as goal

pub loop-config-preserved : goal.loop-config-preserved
loop-config-preserved g c =
    let fresh : g.W.Wire.failed c.in-Some.wire + 1 < 2 ^ 64 =
    of_first (λ wire. g.W.Wire.failed wire + 1 < 2 ^ 64) c.loop-config.wires.rest.items c.next.new.self.rest.items c.in-Some.wire c.in-Some.ensures.cases.0 c.loop-config.invariant.fresh in
    let jobs = c.in_ok-put.ensures.ok in
    let seats = c.in_ok-put-2.ensures.ok in
    record {
      left = omega (arith, c.in-Some.ensures.cases.1, c.loop-config.invariant.left);
      fresh = of_later (λ wire. g.W.Wire.failed wire + 1 < 2 ^ 64) c.loop-config.wires.rest.items c.next.new.self.rest.items c.in-Some.wire c.in-Some.ensures.cases.0 c.loop-config.invariant.fresh;
      over = over_more (λ job. job.1) c.args.wires.items c.loop-config.jobs.items c.put.new.list.items c.loop-config.wires.rest.items c.next.new.self.rest.items c.in_ok-job.job c.in-Some.wire c.loop-config.invariant.over c.in-Some.ensures.cases.0 c.in_ok-job.ensures.wire jobs;
      begins = pairs_more _ c.args.configs.now c.loop-config.config-index c.config-item.result c.loop-config.jobs.items c.put.new.list.items c.in_ok-job.job c.loop-config-test.true c.config-item.is c.loop-config.invariant.begins c.in_ok-job.ensures.begins jobs;
      jobs_fresh = all_more (λ job. g.W.Wire.failed job.1 + 1 < 2 ^ 64) c.loop-config.jobs.items c.put.new.list.items c.in_ok-job.job c.loop-config.invariant.jobs_fresh (subst (λ wire. g.W.Wire.failed wire + 1 < 2 ^ 64) (sym c.in_ok-job.ensures.wire) fresh) jobs;
      seats = pairs_both _ c.loop-config.jobs.items c.put.new.list.items c.loop-config.seats.items c.put-in-loop-config.new.list.items c.in_ok-job.job c.in_ok-job.seat c.loop-config.invariant.seats c.in_ok-job.ensures.seat jobs seats;
    }

pub returns-clause-begins : goal.returns-clause-begins
returns-clause-begins g c =
    let same : to_z w32 (of_z w32 c.args.floor) ≡ c.args.floor = search (rules) in
    let all = subst (λ configs. AllZip (λ config job. BeginsRun (to_z w32 (of_z w32 c.args.floor)) config (g.M.Machine.value job.0) job.2) configs c.loop-config.jobs.items) (take_all c.loop-config.config-index c.args.configs.now c.loop-config-test.false) c.loop-config.invariant.begins in
    subst (λ (z : ℤ). AllZip (λ config job. BeginsRun z config (g.M.Machine.value job.0) job.2) c.args.configs.now c.loop-config.jobs.items) same all

pub returns-clause-over : goal.returns-clause-over
returns-clause-over g c =
    let left = c.loop-config.invariant.left in
    over_all (λ job. job.1) c.args.wires.items c.loop-config.jobs.items c.loop-config.wires.rest.items c.loop-config.invariant.over (omega (arith, left, c.loop-config-test.false, c.requires.wires))
