use Rattle.std.proofs.Common.{◌≡◌, map, take}
use Rattle.serde_json.specs.View.{view}
use Rattle.ospf_table.specs.Values.{hop_object}
use Rattle.ospf_table.proofs.values.hops_value.Given as goal

-- those so far
abbrev pub invariant-loop-hop : goal.invariant-loop-hop
invariant-loop-hop l = map view l.items.items ≡ map hop_object (take l.hop-index l.hops)
