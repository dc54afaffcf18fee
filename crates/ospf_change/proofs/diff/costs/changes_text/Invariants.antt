use Rattle.std.proofs.Common.{◌≡◌, flat_map, string_bytes, take}
use Rattle.ospf_change.specs.Diff.Costs.{cost_line}
use Rattle.ospf_change.proofs.diff.costs.changes_text.Given as goal

-- the lines of the changes so far
abbrev pub invariant-loop-change : goal.invariant-loop-change
invariant-loop-change l = string_bytes l.text ≡ flat_map cost_line (take l.change-index l.changes)
