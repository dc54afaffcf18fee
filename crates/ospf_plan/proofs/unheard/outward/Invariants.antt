use Rattle.std.proofs.Common.{◌≡◌, take}
use Rattle.std.specs.List.{filter_map}
use Rattle.ospf_plan.specs.Ends.{holder_in}
use Rattle.ospf_plan.specs.Unheard.{outward_wire}
use Rattle.ospf_plan.proofs.unheard.outward.Given as goal

abbrev pub invariant-loop-wire : goal.invariant-loop-wire
invariant-loop-wire l = l.some.items ≡ filter_map (outward_wire (holder_in l.ports)) (take l.wire-index l.wires)
