use Rattle.std.proofs.Common.{◌<◌, arith, length}
use Rattle.ospf_run.proofs.Lists.{all_more, one_more}
use Rattle.ospf_drive.proofs.UdpWire.Planned.{stopped_early}
use Rattle.ospf_run.proofs.Wired.{has_wire, not_opened, socketless}
use Rattle.ospf_run.specs.Cut.{IsStopOfPlan, no_memory}
use Rattle.ospf_run.specs.Wires.{IsFresh}
use Rattle.ospf_run.specs.Runs.{span_of}
use Rattle.ospf_run.proofs.wires.open_wires.Goals as goal

pub returns-in_err-wires-clause-stop : goal.returns-in_err-wires-clause-stop
returns-in_err-wires-clause-stop g c = stopped_early c.from_residual.result (IsStopOfPlan c.args.files.now c.args.configs.now) c.from_residual.ensures.1 (λ asked least is. no_memory)

pub returns-in_err-wire-clause-stop : goal.returns-in_err-wire-clause-stop
returns-in_err-wire-clause-stop g c =
    stopped_early c.from_residual-in_err-wire.result (IsStopOfPlan c.args.files.now c.args.configs.now) c.from_residual-in_err-wire.ensures.1 (λ asked least is. no_memory)

pub returns-in_err-put-in-Ok-clause-stop : goal.returns-in_err-put-in-Ok-clause-stop
returns-in_err-put-in-Ok-clause-stop g c =
    stopped_early c.from_residual-in_err-put-in-Ok.result (IsStopOfPlan c.args.files.now c.args.configs.now) c.from_residual-in_err-put-in-Ok.ensures.1 (λ asked least is. no_memory)

pub returns-in-Err-clause-stop : goal.returns-in-Err-clause-stop
returns-in-Err-clause-stop g c = λ asked least is.
    let within : c.loop-place.place < length c.args.files.now = omega (arith, c.requires.files, c.loop-place-test.true) in (
      c.args.configs.now,
      least,
      is,
      socketless c.args.files.now c.args.configs.now c.loop-place.place c.index-files-place.result c.index-configs-place.result c.in-Err.no_socket within c.index-files-place.is
          c.loop-place-test.true c.index-configs-place.is (not_opened c.in_ok-wire.field-0 c.in-Err.no_socket c.index-configs-place.result.interfaces.items c.in-Err.is c.in_ok-wire.ensures.not_opened),
    )

pub loop-place-preserved : goal.loop-place-preserved
loop-place-preserved g c =
    let items = c.in_ok-put-in-Ok.ensures.ok in
    let came = has_wire (span_of c.args.settings.now) c.in_ok-wire.field-0 c.in-Ok.wire c.in-Ok.is c.in_ok-wire.ensures.opened in
    record {
      count = one_more c.loop-place.wires.items c.put.new.list.items c.in-Ok.wire c.loop-place.place items c.loop-place.invariant.count;
      fresh = all_more (IsFresh (span_of c.args.settings.now)) c.loop-place.wires.items c.put.new.list.items c.in-Ok.wire c.loop-place.invariant.fresh came items;
    }
