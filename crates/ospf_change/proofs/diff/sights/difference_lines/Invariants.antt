use Rattle.std.proofs.Common.{◌≡◌, flat_map, string_bytes, take}
use Rattle.ospf_change.specs.Diff.Text.{difference_line}
use Rattle.ospf_change.proofs.diff.sights.difference_lines.Given as goal

-- the lines of the differences so far
abbrev pub invariant-loop-difference : goal.invariant-loop-difference
invariant-loop-difference l = string_bytes l.lines ≡ flat_map (difference_line l.router) (take l.difference-index l.found)
