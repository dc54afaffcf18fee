use Rattle.std.proofs.Common.{◌≡◌, string_bytes, take}
use Rattle.ospf_failures.specs.Overall.{sight_lines}
use Rattle.ospf_failures.proofs.overall.sight_lines.Given as goal

-- the lines of the changes so far
abbrev pub invariant-loop-change : goal.invariant-loop-change
invariant-loop-change l = string_bytes l.lines ≡ sight_lines l.failure (l.root, take l.change-index l.changes)
