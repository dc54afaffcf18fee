use Rattle.std.proofs.Common.{◌≡◌, ◌++◌, map, take}
use Rattle.serde_json.specs.View.{view}
use Rattle.ospf_table.specs.Objects.{change_data}
use Rattle.ospf_table.proofs.objects.add_changes.Given as goal

-- those so far, behind what was there
abbrev pub invariant-loop-change : goal.invariant-loop-change
invariant-loop-change l = map view l.items.items ≡ map view l.fn.items.items ++ map (change_data l.router) (take l.change-index l.changes)
