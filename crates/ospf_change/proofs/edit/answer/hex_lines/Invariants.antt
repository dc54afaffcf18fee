use Rattle.std.proofs.Common.{◌≡◌, string_bytes, take}
use Rattle.std.specs.List.{All}
use Rattle.hex.specs.Hex.{IsBytes}
use Rattle.ospf_change.specs.Edit.Lines.{hex_lines}
use Rattle.ospf_change.proofs.edit.answer.hex_lines.Given as goal

-- the lines of the LSAs so far
abbrev pub invariant-loop-lsa : goal.invariant-loop-lsa
invariant-loop-lsa l =
    (string_bytes l.text ≡ hex_lines (take l.lsa-index l.lsa-items)) × All IsBytes (take l.lsa-index l.lsa-items)
