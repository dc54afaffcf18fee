use Rattle.std.proofs.Common.{◌≡◌, ◌++◌, take}
use Rattle.std.specs.List.{filter_map}
use Rattle.ospf_plan.specs.Unheard.{near_in, unheard}
use Rattle.ospf_plan.specs.Wires.{has_wire}
use Rattle.ospf_plan.proofs.unheard.push_unheard.Given as goal

abbrev pub invariant-loop-end : goal.invariant-loop-end
invariant-loop-end l = l.findings.items ≡ l.initial.findings.items ++ filter_map (unheard (near_in l.near) (has_wire l.wired)) (take l.end-index l.end-items)
