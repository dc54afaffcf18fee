use Rattle.std.proofs.Common.{◌≡◌, flat_map, map, take}
use Rattle.std.specs.List.{enumerate_from}
use Rattle.serde_json.specs.View.{view}
use Rattle.ospf_check.specs.Lines.{warning_items}
use Rattle.ospf_check.proofs.lines.warnings_of.Given as goal

-- the warnings of the interfaces so far
abbrev pub invariant-loop-link : goal.invariant-loop-link
invariant-loop-link l = map view l.values.items ≡ flat_map (warning_items l.config.passes_over) (enumerate_from 0 (take l.link l.config.interfaces.items))
