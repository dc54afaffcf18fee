use Rattle.std.proofs.Common.{rules, ◌≡◌, ◌∙◌, ℤ, of_z, subst, sym, to_z, w32}
use Rattle.std.proofs.lemmas.Result.{IfOk-weaker}
use Rattle.ospf_files.proofs.Cut.{for_memory}
use Rattle.ospf_drive.specs.Traffic.Carried.{Ticks}
use Rattle.ospf_run.proofs.Lists.{all_over}
use Rattle.ospf_run.specs.Cut.{FailsPlan}
use Rattle.ospf_run.specs.Runs.{AreOutcomes, RoutersRan, span_of}
use Rattle.ospf_run.proofs.over.run_over.Goals as goal

pub returns-in_err-jobs-clause-early : goal.returns-in_err-jobs-clause-early
returns-in_err-jobs-clause-early g c = for_memory c.from_residual.result (FailsPlan c.args.settings.now.lookup c.args.files.now) c.from_residual.ensures.1 tt

pub returns-in_err-driven-clause-early : goal.returns-in_err-driven-clause-early
returns-in_err-driven-clause-early g c =
    for_memory c.from_residual-in_err-driven.result (FailsPlan c.args.settings.now.lookup c.args.files.now) c.from_residual-in_err-driven.ensures.1 tt

pub finish_all-requires-clause-ended : goal.finish_all-requires-clause-ended
finish_all-requires-clause-ended g c = (
  record { span = span_of c.args.settings.now; floor = to_z w32 (of_z w32 c.args.plan.now.floor) },
  subst (λ configs. RoutersRan g.M.Machine.rules (record { span = span_of c.args.settings.now; floor = to_z w32 (of_z w32 c.args.plan.now.floor) }) configs c.in_ok-driven.driven.items c.in_ok-driven.router_seats.items) (c.deref.ensures.value ∙ sym c.deref-2.ensures.value)
      (c.in_ok-driven.ensures (record { span = span_of c.args.settings.now; floor = to_z w32 (of_z w32 c.args.plan.now.floor) }) c.deref.result.now c.in_ok-jobs.ensures.begins (all_over (λ job. job.1) (λ wire. g.W.Wire.traffic wire ≡ Ticks 0 (span_of c.args.settings.now)) c.in_ok-jobs.jobs.items c.args.wires.items c.in_ok-jobs.ensures.over c.requires.counted) c.in_ok-jobs.ensures.seats),
)

pub returns-clause-outcomes : goal.returns-clause-outcomes
returns-clause-outcomes g c =
    let same : to_z w32 (of_z w32 c.args.plan.now.floor) ≡ c.args.plan.now.floor = search (rules) in
    let all_ran = subst (λ configs. RoutersRan g.M.Machine.rules (record { span = span_of c.args.settings.now; floor = to_z w32 (of_z w32 c.args.plan.now.floor) }) configs c.in_ok-driven.driven.items c.in_ok-driven.router_seats.items) (c.deref.ensures.value ∙ sym c.deref-2.ensures.value)
    (c.in_ok-driven.ensures (record { span = span_of c.args.settings.now; floor = to_z w32 (of_z w32 c.args.plan.now.floor) }) c.deref.result.now c.in_ok-jobs.ensures.begins (all_over (λ job. job.1) (λ wire. g.W.Wire.traffic wire ≡ Ticks 0 (span_of c.args.settings.now)) c.in_ok-jobs.jobs.items c.args.wires.items c.in_ok-jobs.ensures.over c.requires.counted) c.in_ok-jobs.ensures.seats) in
    IfOk-weaker c.finish_all.result _ _ (λ outcomes are.
    subst (λ configs. AreOutcomes g.M.Machine.rules c.args.settings.now.lookup (record { span = span_of c.args.settings.now; floor = c.args.plan.now.floor }) c.args.files.now configs outcomes.items) c.deref-2.ensures.value
    (subst (λ (least : ℤ). AreOutcomes g.M.Machine.rules c.args.settings.now.lookup (record { span = span_of c.args.settings.now; floor = least }) c.args.files.now c.deref-2.result.now outcomes.items) same are))
    (c.finish_all.ensures.outcomes (record { span = span_of c.args.settings.now; floor = to_z w32 (of_z w32 c.args.plan.now.floor) }) all_ran)
