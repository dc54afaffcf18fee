use Rattle.std.proofs.Common.{◌≡◌, flat_map, string_bytes, take}
use Rattle.ospf_check.specs.Checked.{place_line}
use Rattle.ospf_check.proofs.check.lines_of.Given as goal

-- the lines of the places so far
abbrev pub invariant-loop-place : goal.invariant-loop-place
invariant-loop-place l = string_bytes l.lines ≡ flat_map place_line (take l.place-index l.places)
