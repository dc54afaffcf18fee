use Rattle.std.proofs.Common.{refl}
use Rattle.ospf_drive.proofs.UdpWire.Planned.{config_more, first_refused, stopped_early}
use Rattle.ospf_drive.specs.UdpWire.Obstacles.{IsUnplannedOfRead}
use Rattle.ospf_drive.proofs.udp.plan.read_configs.Goals as goal

pub returns-in_err-configs-clause-stop : goal.returns-in_err-configs-clause-stop
returns-in_err-configs-clause-stop c = stopped_early c.from_residual.result (IsUnplannedOfRead c.args.files.now) c.from_residual.ensures.1 (λ floor least has read. refl)

pub returns-in_err-config-clause-stop : goal.returns-in_err-config-clause-stop
returns-in_err-config-clause-stop c =
    stopped_early c.from_residual-in_err-config.result (IsUnplannedOfRead c.args.files.now) c.from_residual-in_err-config.ensures.1 (λ floor least has read. refl)

pub returns-in_err-put-in-Ok-clause-stop : goal.returns-in_err-put-in-Ok-clause-stop
returns-in_err-put-in-Ok-clause-stop c =
    stopped_early c.from_residual-in_err-put-in-Ok.result (IsUnplannedOfRead c.args.files.now) c.from_residual-in_err-put-in-Ok.ensures.1 (λ floor least has read. refl)

pub returns-in-Err-clause-stop : goal.returns-in-Err-clause-stop
returns-in-Err-clause-stop c = λ floor least has read. (
  least,
  has,
  read,
  first_refused _ _ c.file-item.result c.loop-file.configs.items c.in_ok-config.field-0 c.in-Err.fault c.loop-file-test.true c.file-item.is c.loop-file.invariant c.in-Err.is c.in_ok-config.ensures,
)

pub loop-file-preserved : goal.loop-file-preserved
loop-file-preserved c =
    config_more _ _ c.file-item.result c.loop-file.configs.items _ c.in_ok-config.field-0 c.in-Ok.config c.loop-file-test.true c.file-item.is c.loop-file.invariant c.in-Ok.is
    c.in_ok-config.ensures c.in_ok-put-in-Ok.ensures.ok
