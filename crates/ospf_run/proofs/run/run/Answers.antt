use Rattle.ospf_drive.proofs.UdpWire.Planned.{passed_on, stopped_early}
use Rattle.ospf_run.proofs.Stops.{stop_unplanned}
use Rattle.ospf_run.specs.Cut.{IsStop, no_memory}
use Rattle.ospf_run.specs.Runs.{asked_of}
use Rattle.ospf_run.proofs.run.run.Goals as goal

pub returns-in_err-plan-clause-stop : goal.returns-in_err-plan-clause-stop
returns-in_err-plan-clause-stop g c =
    passed_on c.from_residual.result c.in_err-plan.field-0.0 (IsStop (asked_of c.args.settings.now) c.args.files.now) c.from_residual.ensures.1
    (stop_unplanned (asked_of c.args.settings.now) c.args.files.now c.in_err-plan.field-0.0 c.in_err-plan.ensures.stop)

pub returns-in_err-outcomes-clause-stop : goal.returns-in_err-outcomes-clause-stop
returns-in_err-outcomes-clause-stop g c =
    passed_on c.from_residual-in_err-outcomes.result c.in_err-outcomes.field-0.0 (IsStop (asked_of c.args.settings.now) c.args.files.now) c.from_residual-in_err-outcomes.ensures.1
    c.in_err-outcomes.ensures.stop

pub returns-in_err-drops-clause-stop : goal.returns-in_err-drops-clause-stop
returns-in_err-drops-clause-stop g c =
    stopped_early c.from_residual-in_err-drops.result (IsStop (asked_of c.args.settings.now) c.args.files.now) c.from_residual-in_err-drops.ensures.1 no_memory

pub returns-clause-ran : goal.returns-clause-ran
returns-clause-ran g c = (
  record {
    configs = c.in_ok-plan.plan.configs.items;
    least = c.in_ok-plan.plan.floor;
    plan = c.in_ok-plan.ensures.plan;
    are = c.in_ok-outcomes.ensures.outcomes;
  },
  c.extras.ensures,
)
