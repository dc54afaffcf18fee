use Rattle.std.proofs.Common.{◌≡◌, flat_map, string_bytes, take}
use Rattle.std.specs.List.{enumerate_from}
use Rattle.ospf_check.specs.Checked.{warning_line}
use Rattle.ospf_check.proofs.check.warnings.Given as goal

-- the lines of the interfaces so far
abbrev pub invariant-loop-link : goal.invariant-loop-link
invariant-loop-link l = string_bytes l.lines ≡ flat_map (warning_line l.config.passes_over) (enumerate_from 0 (take l.link l.config.interfaces.items))
