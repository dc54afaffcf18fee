use Rattle.std.proofs.Common.{◌<◌, ◌++◌, ◌∙◌, ap, sym, arith, length, take, append_assoc}
use Rattle.std.specs.Option.{option_to_list}
use Rattle.std.specs.List.{filter_map}
use Rattle.ospf_plan.specs.Ends.{holder_in}
use Rattle.ospf_plan.specs.Wires.{has_wire, wire_fault}
use Rattle.ospf_plan.proofs.Steps.{filter_map_more}
use Rattle.ospf_plan.proofs.wires.push_wire_faults.Goals as goal

pub loop-wire-preserved : goal.loop-wire-preserved
loop-wire-preserved c =
    let wires = c.args.wires.now in
    let i = c.loop-wire.wire-index in
    let x = c.wire-item.result in
    let h = wire_fault (holder_in c.args.ports.now) (has_wire c.args.heard.now) in
    let within : i < length wires = omega arith in
    let old = c.args.findings.now.items in
    let before = filter_map h (take i wires) in
    let last = option_to_list (h x) in
    c.in_ok-push_one.ensures
    ∙ ap (λ o. c.loop-wire.findings.items ++ option_to_list o) c.wire_fault.ensures
    ∙ ap (λ fs. fs ++ last) c.loop-wire.invariant
    ∙ append_assoc old before last
    ∙ ap (λ y. old ++ (before ++ option_to_list (h y))) c.wire-item.is
    ∙ ap (λ fs. old ++ fs) (sym (filter_map_more wires i x within h))
