use Rattle.std.proofs.Common.{◌≡◌, map, take}
use Rattle.serde_json.specs.View.{view}
use Rattle.ospf_inspect.specs.Tables.{hop_data}
use Rattle.ospf_inspect.proofs.tables.hops_value.Given as goal

-- those so far
abbrev pub invariant-loop-hop : goal.invariant-loop-hop
invariant-loop-hop l = map view l.items.items ≡ map hop_data (take l.hop-index l.hops)
