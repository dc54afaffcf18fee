use Rattle.std.proofs.Common.{◌≡◌, map, take}
use Rattle.serde_json.specs.Data.{string}
use Rattle.serde_json.specs.View.{view}
use Rattle.ospf_graph.specs.Text.{hop_text}
use Rattle.ospf_table.proofs.objects.hops_value.Given as goal

-- those so far
abbrev pub invariant-loop-hop : goal.invariant-loop-hop
invariant-loop-hop l = map view l.items.items ≡ map (λ hop. string (hop_text hop)) (take l.hop-index l.hops)
