use Rattle.std.proofs.Common.{All, ◌≡◌, ◌+◌, ◌<◌, ◌^◌, ◌∙◌, ap, length, subst, sym}
use Rattle.ospf_drive.specs.Traffic.Carried.{Ticks}
use Rattle.ospf_run.proofs.Lists.{all_paired, as_many}
use Rattle.ospf_drive.proofs.UdpWire.Planned.{as_many_configs, passed_on, stopped_early}
use Rattle.ospf_run.proofs.Wired.{all_counted, all_fresh}
use Rattle.ospf_run.proofs.Stops.{early_of_plan}
use Rattle.ospf_run.specs.Cut.{IsStop, IsStopOfPlan, no_memory}
use Rattle.ospf_drive.specs.UdpWire.Plans.{HasPlan, HasPorts}
use Rattle.ospf_run.specs.Runs.{asked_of, floor_of, span_of}
use Rattle.ospf_drive.specs.declared.udp.stop.Stop.TheVariants as stop
use Rattle.ospf_drive.specs.UdpWire.Wires.{UdpValue}
use Rattle.ospf_run.proofs.run.run_plan.Goals as goal

pub open_wires-requires-clause-files : goal.open_wires-requires-clause-files
open_wires-requires-clause-files g c = as_many_configs c.args.files.now c.args.plan.now.configs.items c.requires.are_configs ∙ ap (λ configs. length configs) (sym c.deref.ensures.value)

pub open_wires-requires-clause-ports : goal.open_wires-requires-clause-ports
open_wires-requires-clause-ports g c = subst (λ configs. All HasPorts configs) (sym c.deref.ensures.value) c.requires.ports

pub returns-in_err-sockets-clause-stop : goal.returns-in_err-sockets-clause-stop
returns-in_err-sockets-clause-stop g c =
    passed_on c.from_residual.result c.in_err-sockets.field-0.0 (IsStop (asked_of c.args.settings.now) c.args.files.now) c.from_residual.ensures.1
    (subst (λ configs. IsStopOfPlan c.args.files.now configs c.in_err-sockets.field-0.0) c.deref.ensures.value c.in_err-sockets.ensures.stop (asked_of c.args.settings.now) c.args.plan.now.floor c.requires)

pub tap_all-requires-clause-files : goal.tap_all-requires-clause-files
tap_all-requires-clause-files g c =
    as_many_configs c.args.files.now c.args.plan.now.configs.items c.requires.are_configs ∙ ap (λ configs. length configs) (sym c.deref-2.ensures.value)

pub tap_all-requires-clause-wires : goal.tap_all-requires-clause-wires
tap_all-requires-clause-wires g c =
    c.in_ok-sockets.ensures.wires.0 ∙ ap (λ configs. length configs) (c.deref.ensures.value ∙ sym c.deref-2.ensures.value)

pub returns-in_err-wires-clause-stop : goal.returns-in_err-wires-clause-stop
returns-in_err-wires-clause-stop g c =
    stopped_early c.from_residual-in_err-wires.result (IsStop (asked_of c.args.settings.now) c.args.files.now) c.from_residual-in_err-wires.ensures.1 no_memory

pub run_over-requires-clause-files : goal.run_over-requires-clause-files
run_over-requires-clause-files g c κs within = as_many_configs c.args.files.now c.args.plan.now.configs.items c.requires.are_configs

pub run_over-requires-clause-wires : goal.run_over-requires-clause-wires
run_over-requires-clause-wires g c κs within =
    sym (as_many (λ wire it. it.wire ≡ wire) c.in_ok-sockets.sockets.items c.in_ok-wires.wires.items c.in_ok-wires.ensures)
    ∙ (c.in_ok-sockets.ensures.wires.0 ∙ ap (λ configs. length configs) c.deref.ensures.value)

pub run_over-requires-clause-fresh : goal.run_over-requires-clause-fresh
run_over-requires-clause-fresh g c κs within =
    all_paired (λ wire it. it.wire ≡ wire) (λ (w : UdpValue). w.failed + 1 < 2 ^ 64) (λ it. it.wire.failed + 1 < 2 ^ 64) c.in_ok-sockets.sockets.items c.in_ok-wires.wires.items
    (λ wire it is fresh. subst (λ (w : UdpValue). w.failed + 1 < 2 ^ 64) (sym is) fresh) c.in_ok-wires.ensures
    (all_fresh (span_of c.args.settings.now) c.in_ok-sockets.sockets.items c.in_ok-sockets.ensures.wires.1)

pub run_over-requires-clause-counted : goal.run_over-requires-clause-counted
run_over-requires-clause-counted g c κs within =
    all_paired (λ wire it. it.wire ≡ wire) (λ (w : UdpValue). Ticks w.handed w.span ≡ Ticks 0 (span_of c.args.settings.now)) (λ it. Ticks it.wire.handed it.wire.span ≡ Ticks 0 (span_of c.args.settings.now))
    c.in_ok-sockets.sockets.items c.in_ok-wires.wires.items
    (λ wire it is counted. subst (λ (w : UdpValue). Ticks w.handed w.span ≡ Ticks 0 (span_of c.args.settings.now)) (sym is) counted) c.in_ok-wires.ensures
    (all_counted (span_of c.args.settings.now) c.in_ok-sockets.sockets.items c.in_ok-sockets.ensures.wires.1)

pub returns-in_err-outcomes-clause-stop : goal.returns-in_err-outcomes-clause-stop
returns-in_err-outcomes-clause-stop g c =
    let has : HasPlan (floor_of c.args.settings.now) c.args.files.now = record { configs = c.args.plan.now.configs.items; least = c.args.plan.now.floor; plan = c.requires } in
    passed_on c.from_residual-in_err-outcomes.result (stop.Failure c.in_err-outcomes.field-0.0) (IsStop (asked_of c.args.settings.now) c.args.files.now)
    c.from_residual-in_err-outcomes.ensures.1 (early_of_plan (asked_of c.args.settings.now) c.args.files.now c.in_err-outcomes.field-0.0 has c.in_err-outcomes.ensures.early)
