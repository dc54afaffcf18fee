use Rattle.std.proofs.Common.{◌≡◌, ◌+◌, ◌≤◌, ◌++◌, length, map}
use Rattle.ospf_files.specs.Lines.{numbered_line, numbered_from}
use Rattle.ospf_files.proofs.line.lines.Given as goal

abbrev pub invariant-loop-line : goal.invariant-loop-line
invariant-loop-line l = record {
  found : map numbered_line l.found.items ++ numbered_from (l.number + 1) l.rest ≡ numbered_from 1 l.fn.text;
  few : l.number + length l.rest ≤ length l.fn.text;
}

abbrev pub decreases-loop-line : goal.decreases-loop-line
decreases-loop-line l = length l.rest
