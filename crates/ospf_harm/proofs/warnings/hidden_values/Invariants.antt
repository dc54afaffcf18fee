use Rattle.std.proofs.Common.{◌≡◌, map, take}
use Rattle.serde_json.specs.View.{view}
use Rattle.ospf_harm.specs.Warnings.{hidden_names}
use Rattle.ospf_harm.proofs.warnings.hidden_values.Given as goal

-- those so far
abbrev pub invariant-loop-cost : goal.invariant-loop-cost
invariant-loop-cost l = map view l.names.items ≡ hidden_names (take l.cost-index l.hidden) l.failure
