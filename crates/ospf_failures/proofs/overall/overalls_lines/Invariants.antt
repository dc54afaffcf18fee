use Rattle.std.proofs.Common.{◌≡◌, string_bytes, take}
use Rattle.ospf_failures.specs.HarmLines.{overalls_lines}
use Rattle.ospf_failures.proofs.overall.overalls_lines.Given as goal

-- the lines of the failures so far
abbrev pub invariant-loop-overall : goal.invariant-loop-overall
invariant-loop-overall l = string_bytes l.text ≡ overalls_lines l.each l.hidden (take l.overall-index l.overalls)
