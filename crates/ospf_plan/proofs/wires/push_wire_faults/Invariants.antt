use Rattle.std.proofs.Common.{◌≡◌, ◌++◌, take}
use Rattle.std.specs.List.{filter_map}
use Rattle.ospf_plan.specs.Ends.{holder_in}
use Rattle.ospf_plan.specs.Wires.{has_wire, wire_fault}
use Rattle.ospf_plan.proofs.wires.push_wire_faults.Given as goal

abbrev pub invariant-loop-wire : goal.invariant-loop-wire
invariant-loop-wire l = l.findings.items ≡ l.initial.findings.items ++ filter_map (wire_fault (holder_in l.ports) (has_wire l.heard)) (take l.wire-index l.wires)
