use Rattle.std.proofs.Common.{◌≡◌, ◌++◌, take}
use Rattle.std.specs.List.{filter_map}
use Rattle.ospf_plan.specs.Parts.{join_at, linked_in}
use Rattle.ospf_plan.proofs.parts.push_joins.Given as goal

abbrev pub invariant-loop-end : goal.invariant-loop-end
invariant-loop-end l = l.joins.items ≡ l.initial.joins.items ++ filter_map (join_at (linked_in l.links)) (take l.end-index l.ends)
