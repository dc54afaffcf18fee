use Rattle.std.proofs.Common.{◌≡◌, flat_map, string_bytes, take}
use Rattle.ospf_check.specs.Lines.{finding_line}
use Rattle.ospf_check.proofs.lines.findings_lines.Given as goal

-- the lines of the findings so far
abbrev pub invariant-loop-finding : goal.invariant-loop-finding
invariant-loop-finding l = string_bytes l.text ≡ flat_map (finding_line l.files) (take l.finding-index l.findings)
