use Rattle.std.proofs.Common.{◌≡◌, flat_map, string_bytes, take}
use Rattle.ospf_check.specs.Checked.{fault_told}
use Rattle.ospf_check.proofs.check.lines_of_all.Given as goal

-- the lines of the faults so far
abbrev pub invariant-loop-told : goal.invariant-loop-told
invariant-loop-told l = string_bytes l.lines ≡ flat_map fault_told (take l.told-index l.faults)
