use Rattle.std.proofs.Common.{◌≡◌, map, take}
use Rattle.serde_json.specs.View.{view}
use Rattle.ospf_check.specs.Json.{finding_data}
use Rattle.ospf_check.proofs.json.findings_value.Given as goal

-- the findings so far
abbrev pub invariant-loop-finding : goal.invariant-loop-finding
invariant-loop-finding l = map view l.items.items ≡ map (finding_data l.files) (take l.finding-index l.findings)
