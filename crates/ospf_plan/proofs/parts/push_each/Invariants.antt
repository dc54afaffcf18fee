use Rattle.std.proofs.Common.{◌≡◌, ◌++◌, take}
use Rattle.std.specs.List.{filter_map}
use Rattle.ospf_plan.specs.Joins.{set_has}
use Rattle.ospf_plan.specs.Parts.{apart}
use Rattle.ospf_plan.proofs.parts.push_each.Given as goal

abbrev pub invariant-loop-end : goal.invariant-loop-end
invariant-loop-end l = l.findings.items ≡ l.initial.findings.items ++ filter_map (apart (set_has l.reached) l.first) (take l.end-index l.ends)
