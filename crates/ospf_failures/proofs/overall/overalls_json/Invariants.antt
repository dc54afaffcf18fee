use Rattle.std.proofs.Common.{◌≡◌, map, take}
use Rattle.serde_json.specs.View.{view}
use Rattle.ospf_failures.specs.Json.{overall_data}
use Rattle.ospf_failures.proofs.overall.overalls_json.Given as goal

-- those so far
abbrev pub invariant-loop-overall : goal.invariant-loop-overall
invariant-loop-overall l = map view l.objects.items ≡ map (overall_data l.each l.hidden) (take l.overall-index l.overalls)
