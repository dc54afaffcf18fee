use Rattle.std.proofs.Common.{◌≡◌, map, string_bytes, take}
use Rattle.ospf_c.proofs.words.copies_of_lines.Given as goal

-- those so far
abbrev pub invariant-loop-line : goal.invariant-loop-line
invariant-loop-line l = map string_bytes l.copies.items ≡ map (λ t. t.now) (take l.line-index l.line-items)
