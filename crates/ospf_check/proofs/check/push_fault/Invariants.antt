use Rattle.std.proofs.Common.{◌≡◌, ◌++◌, flat_map, string_bytes, take}
use Rattle.ospf_check.specs.Checked.{faulty_place_line}
use Rattle.ospf_check.proofs.check.push_fault.Given as goal

-- the lines of the places so far
abbrev pub invariant-loop-place : goal.invariant-loop-place
invariant-loop-place l = string_bytes l.lines ≡ string_bytes l.fn.lines ++ flat_map (faulty_place_line l.fault) (take l.place-index l.places)
